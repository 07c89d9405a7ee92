-- What is read of a replica, and how it is told: over plain variables.
use Rattle.std.proofs.Common.{◌≡◌, ℕ, zero, suc, List, [], ◌∷◌, ◌++◌, length, refl, arith, sym, ap, subst, ◌∙◌, append_assoc, append-nil, codes}
use Rattle.std.specs.Fmt.{decimal}
use Rattle.std.specs.List.{All}
use Rattle.std.specs.Map.{keys_of}
use Rattle.std.proofs.lemmas.List.{map-append}
use Rattle.std.proofs.lemmas.List.Elements.{All-append}
use Rattle.dots.specs.Dot.{DotValue}
use Rattle.op_model.specs.Meaning.{MapState, Stands, StandsWithin, HoldsField, HoldsKey}
use Rattle.op_model.specs.Place.{Place, place_of}
use Rattle.replica_core.specs.Reading.{Lists}
use Rattle.trace_words.specs.Text.{entry_text, entries_text, values_text}
use Rattle.trace_world.specs.Does.{AddsEntries}
use Rattle.trace_world.specs.Outcome.{Done, ReadsValues, ReadsFields, ReadsKeys}

-- the values at a place
pub values_told : (live : MapState) (place there : Place) (found told : List (List ℕ)) (text : List ℕ) → there ≡ place → Lists (Stands live there) found
    → told ≡ found → text ≡ values_text told
    → ReadsValues place live (Done text [])
values_told live place there found told text at lists same is =
    (found, subst (λ p. Lists (Stands live p) found) at lists, ap (λ t. Done t []) (is ∙ ap values_text same))

-- of a store that holds what this state does
pub stands_same : (p q : MapState) (place : Place) (found : List (List ℕ)) → ((place : Place) (dot : DotValue) → p.at place dot ≡ q.at place dot)
    → Lists (Stands p place) found → Lists (Stands q place) found
stands_same p q place found same lists = record {
  ascending = lists.ascending;
  just = λ value. (
    (λ c. let s = (lists.just value).0 c in (s.0, sym (same place s.0) ∙ s.1)),
    (λ s. (lists.just value).1 (s.0, same place s.0 ∙ s.1)),
  );
}

entries_append : (xs ys : List (List ℕ × List (List ℕ))) → entries_text (xs ++ ys) ≡ entries_text xs ++ entries_text ys
entries_append [] ys = refl
entries_append (x ∷ xs) ys = ap (λ t. entry_text x.0 x.1 ++ t) (entries_append xs ys)
    ∙ sym (append_assoc (entry_text x.0 x.1) (entries_text xs) (entries_text ys))

length_keys : (entries : List (List ℕ × List (List ℕ))) → length (keys_of entries) ≡ length entries
length_keys [] = refl
length_keys (e ∷ es) = ap suc (length_keys es)

module _ (P : List ℕ → List (List ℕ) → Type 0) where
  pub adds_none : (old : List ℕ) → AddsEntries P [] old old
  adds_none old = ([], refl, none, sym (append-nil old))
    where
      none : All {X = List ℕ × List (List ℕ)} (λ e. P e.0 e.1) []
      none k d l = absurd (omega (arith, l))

  pub adds_more : (labels : List (List ℕ)) (found told : List (List ℕ)) (label old mid new : List ℕ)
      → AddsEntries P labels old mid → P label found → told ≡ found → new ≡ mid ++ entry_text label told → AddsEntries P (labels ++ label ∷ []) old new
  adds_more labels found told label old mid new (entries, labelled, all, text) has same adds = (
    entries ++ (label, found) ∷ [],
    map-append (λ e. e.0) entries ((label, found) ∷ []) ∙ ap (λ ls. ls ++ label ∷ []) labelled,
    All-append {X = List ℕ × List (List ℕ)} (λ e. P e.0 e.1) entries ((label, found) ∷ []) all (one (label, found) has),
    adds ∙ ap (λ t. mid ++ entry_text label t) same ∙ ap (λ t. t ++ entry_text label found) text
        ∙ append_assoc old (entries_text entries) (entry_text label found)
        ∙ ap (λ t. old ++ (entries_text entries ++ t)) (sym (append-nil (entry_text label found)))
        ∙ ap (λ t. old ++ t) (sym (entries_append entries ((label, found) ∷ []))),
  )
    where
      one : (e : List ℕ × List (List ℕ)) → P e.0 e.1 → All {X = List ℕ × List (List ℕ)} (λ e. P e.0 e.1) (e ∷ [])
      one e h zero d l = h
      one e h (suc k) d l = absurd (omega (arith, l))

-- the fields of a key with their values
pub fields_told : (live : MapState) (key key' : List ℕ) (fields : List (List ℕ)) (front text : List ℕ) → key' ≡ key → Lists (HoldsField live key') fields
    → front ≡ codes "fields " ++ decimal (length fields)
    → AddsEntries (λ field. Lists (Stands live (place_of key' field))) fields front text → ReadsFields key live (Done text [])
fields_told live key key' fields front text same lists begins (entries, labelled, all, is) =
    subst (λ k. ReadsFields k live (Done text [])) same (
      entries,
      subst (Lists (HoldsField live key')) (sym labelled) lists,
      all,
      ap (λ t. Done t []) (is ∙ ap (λ t. t ++ entries_text entries)
          (begins ∙ ap (λ n. codes "fields " ++ decimal n) (ap length (sym labelled) ∙ length_keys entries))),
    )

-- all keys with their values
pub keys_told : (live : MapState) (keys : List (List ℕ)) (front text : List ℕ) → Lists (HoldsKey live) keys → front ≡ codes "map " ++ decimal (length keys)
    → AddsEntries (λ key. Lists (StandsWithin live key)) keys front text → ReadsKeys live (Done text [])
keys_told live keys front text lists begins (entries, labelled, all, is) = (
  entries,
  subst (Lists (HoldsKey live)) (sym labelled) lists,
  all,
  ap (λ t. Done t []) (is ∙ ap (λ t. t ++ entries_text entries)
      (begins ∙ ap (λ n. codes "map " ++ decimal n) (ap length (sym labelled) ∙ length_keys entries))),
)
