-- Dots gathered into an ordered set, and the pair that knows just these: over plain variables.
use Rattle.std.proofs.Common.{◌≡◌, ℕ, ◌+◌, ◌<◌, ◌||◌, Bool, true, false, List, [], ◌∷◌, ◌++◌, map, take, length, get_or, None, is_some, IsSome, IsTrue}
use Rattle.std.proofs.Common.{Contains, refl, sym, ◌∙◌, ap, subst, ◌⊎◌, ◌↔◌, inl, inr}
use Rattle.std.specs.declared.cmp.Ordering.{Ordering}
use Rattle.std.specs.declared.cmp.Ordering.TheVariants.{Less, Equal, Greater}
use Rattle.std.specs.BTreeSet.{insert_key}
use Rattle.std.specs.List.{IsDistinct}
use Rattle.std.specs.List.Sorted.{IsStrictlySortedBy}
use Rattle.std.specs.Ordering.{match_ordering}
use Rattle.std.proofs.lemmas.Bool.{or_left, or_right}
use Rattle.std.proofs.lemmas.List.{map-append, take_more}
use Rattle.std.proofs.lemmas.List.Elements.{Contains-append_left, Contains-append_right, Contains-append_cases}
use Rattle.std.proofs.lemmas.Map.Keys.{IsDistinct-from_sorted}
use Rattle.dots.specs.Dot.{DotValue, same_dot}
use Rattle.causal_context.specs.Context.{ContextValue}
use Rattle.causal_context.specs.Context as context
use Rattle.causal_join.specs.Causal.{state_of}
use Rattle.causal_join.specs.OrMap.{ValuesValue, FieldsValue, OrMapStoreValue, OrMapValue, fields_at, or_map_at, path_of, or_map_state}
use Rattle.dot_store.specs.Store.{HasNothing, HoldsDot}
use Rattle.dot_store.specs.Stores.{at_values}
use Rattle.op_model.specs.Made.{IsRemoveAt, IsClearAt, erasure}
use Rattle.op_model.specs.Meaning.{state}
use Rattle.op_model.specs.Place.{place_of}
use Rattle.op_model.specs.State.{Same, IsInside}
use Rattle.op_model.proofs.Making.{at-erasure, has-erasure}
use Rattle.op_model.proofs.Members.{nothing_in, at_head, in_tail, head_or_tail}
use Rattle.causal_context.specs.Dots.{dot_cmp}
use Rattle.causal_context.proofs.Dots.{dot_exact, is_eq-dot_cmp}
use Rattle.op_model.specs.Operation.{has}
use Rattle.op_model.proofs.Dots.{has-append}
use Rattle.op_model.proofs.Joins.{or_assoc}

-- the items before a place, with the one that stands there
pub more_taken : {X : Type 0} (xs : List X) (i : ℕ) (x : X) → i < length xs → x ≡ get_or xs i x → take (i + 1) xs ≡ take i xs ++ x ∷ []
more_taken xs i x within at = take_more xs i x within ∙ ap (λ y. take i xs ++ y ∷ []) (sym at)

-- an ordered set with one dot more
has-insert_at : (o : Ordering) (dot k : DotValue) (ks more : List DotValue) (d : DotValue) → dot_cmp dot k ≡ o → has more d ≡ (same_dot dot d || has ks d)
    → has (match_ordering o (dot ∷ k ∷ ks) (k ∷ ks) (k ∷ more)) d ≡ (same_dot dot d || has (k ∷ ks) d)
has-insert_at Less dot k ks more d is rest = refl
has-insert_at Equal dot k ks more d is rest =
    let same : dot ≡ k = dot_exact dot k is in
    rw same (or_same (same_dot k d) (has ks d))
  where
    or_same : (b c : Bool) → (b || c) ≡ (b || (b || c))
    or_same true c = refl
    or_same false c = refl
has-insert_at Greater dot k ks more d is rest = ap (λ b. same_dot k d || b) rest ∙ turned (same_dot k d) (same_dot dot d) (has ks d)
  where
    turned : (a b c : Bool) → (a || (b || c)) ≡ (b || (a || c))
    turned true true c = refl
    turned true false c = refl
    turned false true c = refl
    turned false false c = refl

pub has-insert : (dot : DotValue) (ks : List DotValue) (d : DotValue) → has (insert_key dot_cmp ks dot) d ≡ (same_dot dot d || has ks d)
has-insert dot [] d = refl
has-insert dot (k ∷ ks) d = has-insert_at (dot_cmp dot k) dot k ks (insert_key dot_cmp ks dot) d refl (has-insert dot ks d)

-- one dot more was gathered
gathered_more : (old found new : List DotValue) (dots : List DotValue) (dot : DotValue) → ((d : DotValue) → has found d ≡ (has old d || has dots d))
    → new ≡ insert_key dot_cmp found dot → (d : DotValue) → has new d ≡ (has old d || has (dots ++ dot ∷ []) d)
gathered_more old found new dots dot gathered is d =
    ap (λ ks. has ks d) is ∙ (has-insert dot found d ∙ (ap (λ b. same_dot dot d || b) (gathered d)
    ∙ (turned (same_dot dot d) (has old d) (has dots d) ∙ ap (λ b. has old d || b) (sym (has-append dots (dot ∷ []) d)))))
  where
    turned : (a b c : Bool) → (a || (b || c)) ≡ (b || (c || (a || false)))
    turned true true c = refl
    turned true false true = refl
    turned true false false = refl
    turned false true c = refl
    turned false false true = refl
    turned false false false = refl

-- the dots of the entries before a place
abbrev pub dots_before : {X : Type 0} → ℕ → List (DotValue × X) → List DotValue
dots_before i entries = map (λ entry. entry.0) (take i entries)

pub gathered_more_at : {X : Type 0} (old found new : List DotValue) (entries : List (DotValue × X)) (i : ℕ) (entry : DotValue × X) → i < length entries
    → entry ≡ get_or entries i entry
    → ((d : DotValue) → has found d ≡ (has old d || has (dots_before i entries) d)) → new ≡ insert_key dot_cmp found entry.0
    → (d : DotValue) → has new d ≡ (has old d || has (dots_before (i + 1) entries) d)
gathered_more_at old found new entries i entry within at gathered is d =
    gathered_more old found new (dots_before i entries) entry.0 gathered is d
    ∙ ap (λ dots. has old d || has dots d) (sym (map-append (λ entry. entry.0) (take i entries) (entry ∷ []))
    ∙ ap (map (λ entry. entry.0)) (sym (more_taken entries i entry within at)))

-- one dot more is known
pub known_more : (test new : DotValue → Bool) (dots : List DotValue) (dot : DotValue) → ((d : DotValue) → test d ≡ has dots d)
    → ((d : DotValue) → new d ≡ (same_dot dot d || test d)) → (d : DotValue) → new d ≡ has (dots ++ dot ∷ []) d
known_more test new dots dot known is d =
    is d ∙ (ap (λ b. same_dot dot d || b) (known d) ∙ (turned (same_dot dot d) (has dots d) ∙ sym (has-append dots (dot ∷ []) d)))
  where
    turned : (a b : Bool) → (a || b) ≡ (b || (a || false))
    turned true true = refl
    turned true false = refl
    turned false true = refl
    turned false false = refl

-- dots of an ordered set are apart
pub apart : (ks : List DotValue) → IsStrictlySortedBy dot_cmp ks → IsDistinct same_dot ks
apart ks sorted = subst (λ same. IsDistinct same ks) (λ i d e. is_eq-dot_cmp d e i) (IsDistinct-from_sorted dot_cmp ks sorted)

-- whether the dot stands in any of these stores
abbrev pub in_any : List ValuesValue → DotValue → Bool
in_any [] d = false
in_any (standing ∷ stores) d = is_some (at_values standing tt d) || in_any stores d

in_any-append : (stores more : List ValuesValue) (d : DotValue) → in_any (stores ++ more) d ≡ (in_any stores d || in_any more d)
in_any-append [] more d = refl
in_any-append (standing ∷ stores) more d =
    ap (λ b. is_some (at_values standing tt d) || b) (in_any-append stores more d)
    ∙ sym (or_assoc (is_some (at_values standing tt d)) (in_any stores d) (in_any more d))

or_false : (b : Bool) → b ≡ (b || false)
or_false true = refl
or_false false = refl

-- the dots of these stores were added
abbrev pub Adds : List DotValue → List DotValue → List ValuesValue → Type 0
Adds old found stores = (d : DotValue) → has found d ≡ (has old d || in_any stores d)

adds_store : (old found new : List DotValue) (stores : List ValuesValue) (standing : ValuesValue) → Adds old found stores
    → ((d : DotValue) → has new d ≡ (has found d || is_some (at_values standing tt d))) → Adds old new (stores ++ standing ∷ [])
adds_store old found new stores standing added is d =
    is d ∙ (ap (λ b. b || is_some (at_values standing tt d)) (added d) ∙ (or_assoc (has old d) (in_any stores d) (is_some (at_values standing tt d))
    ∙ ap (λ b. has old d || b) (ap (λ b. in_any stores d || b) (or_false (is_some (at_values standing tt d))) ∙ sym (in_any-append stores (standing ∷ []) d))))

-- the stores of the entries before a place
abbrev pub stores_before : {K X : Type 0} → ℕ → List (K × X) → List X
stores_before i entries = map (λ entry. entry.1) (take i entries)

pub adds_store_at : (old found new : List DotValue) (entries : FieldsValue) (i : ℕ) (entry : List ℕ × ValuesValue) → i < length entries
    → entry ≡ get_or entries i entry
    → Adds old found (stores_before i entries) → ((d : DotValue) → has new d ≡ (has found d || is_some (at_values entry.1 tt d)))
    → Adds old new (stores_before (i + 1) entries)
adds_store_at old found new entries i entry within at added is d =
    adds_store old found new (stores_before i entries) entry.1 added is d
    ∙ ap (λ stores. has old d || in_any stores d) (sym (map-append (λ entry. entry.1) (take i entries) (entry ∷ []))
    ∙ ap (map (λ entry. entry.1)) (sym (more_taken entries i entry within at)))

-- the dot stands in one of the stores of these entries
abbrev pub StandsAmong : FieldsValue → DotValue → Type 0
StandsAmong entries d = (field : List ℕ) × (standing : ValuesValue) × Contains entries (field, standing) × IsSome (at_values standing tt d)

among_step : (field : List ℕ) (standing : ValuesValue) (entries : FieldsValue) (d : DotValue) (b : Bool)
    → is_some (at_values standing tt d) ≡ b → (IsTrue (in_any (map (λ entry. entry.1) entries) d) → StandsAmong entries d)
    → IsTrue (b || in_any (map (λ entry. entry.1) entries) d) → StandsAmong ((field, standing) ∷ entries) d
among_step field standing entries d true here later found = (field, standing, at_head (field, standing) entries, here)
among_step field standing entries d false here later found =
    let there = later found in (there.0, there.1, in_tail (field, standing) entries (there.0, there.1) there.2, there.3)

from_any : (entries : FieldsValue) (d : DotValue) → IsTrue (in_any (map (λ entry. entry.1) entries) d) → StandsAmong entries d
from_any [] d found = absurd cc
from_any ((field, standing) ∷ entries) d found = among_step field standing entries d (is_some (at_values standing tt d)) refl (from_any entries d) found

any_step : (standing wanted : ValuesValue) (d : DotValue) (b rest : Bool) → IsSome (at_values wanted tt d) → is_some (at_values standing tt d) ≡ b
    → (standing ≡ wanted) ⊎ IsTrue rest → IsTrue (b || rest)
any_step standing wanted d true rest there is one = refl
any_step standing wanted d false rest there is (inl same) =
    absurd (let turned : false ≡ true = sym is ∙ (ap (λ w. is_some (at_values w tt d)) same ∙ there) in cc)
any_step standing wanted d false rest there is (inr later) = later

to_any : (entries : FieldsValue) (field : List ℕ) (wanted : ValuesValue) (d : DotValue) → Contains entries (field, wanted)
    → IsSome (at_values wanted tt d) → IsTrue (in_any (map (λ entry. entry.1) entries) d)
to_any [] field wanted d in_it there = nothing_in (field, wanted) in_it
to_any ((other, standing) ∷ entries) field wanted d in_it there =
    any_step standing wanted d (is_some (at_values standing tt d)) (in_any (map (λ entry. entry.1) entries) d) there refl
    (elim (head_or_tail (other, standing) entries (field, wanted) in_it) [
      | inl same ↦ inl (ap (λ entry. entry.1) same)
      | inr later ↦ inr (to_any entries field wanted d later there)
    ])

-- the dots were added that stand at any of the fields
abbrev pub AddsFields : List DotValue → List DotValue → FieldsValue → Type 0
AddsFields old found fields = (d : DotValue) → IsTrue (has found d) ↔ (IsTrue (has old d) ⊎ HoldsDot (fields_at fields) d)

-- what is true of either, and of the one or the other
either : (a b : Bool) → IsTrue (a || b) → IsTrue a ⊎ IsTrue b
either true b h = inl refl
either false b h = inr h

pub adds_fields : (old found : List DotValue) (fields entries : FieldsValue) → entries ≡ fields
    → ((field : List ℕ) (standing : ValuesValue) → Contains entries (field, standing) → (place : Unit {0}) (d : DotValue)
    → fields_at fields (field, place) d ≡ at_values standing place d)
    → ((field : List ℕ) (place : Unit {0}) (d : DotValue) → IsSome (fields_at fields (field, place) d) → (standing : ValuesValue)
    × Contains entries (field, standing))
    → Adds old found (map (λ entry. entry.1) entries) → AddsFields old found fields
adds_fields old found fields entries is held only added d = (
  λ h. elim (either (has old d) (in_any (map (λ entry. entry.1) entries) d) (sym (added d) ∙ h)) [
    | inl before ↦ inl before
    | inr now ↦ let there = from_any entries d now in inr ((there.0, tt), ap is_some (held there.0 there.1 there.2 tt d) ∙ there.3)
  ],
  λ one. elim one [
    | inl before ↦ added d ∙ or_left (has old d) (in_any (map (λ entry. entry.1) entries) d) before
    | inr there ↦
        let standing = only there.0.0 tt d there.1 in
        added d ∙ or_right (has old d) (in_any (map (λ entry. entry.1) entries) d)
        (to_any entries there.0.0 standing.0 d standing.1 (sym (ap is_some (held there.0.0 standing.0 standing.1 tt d)) ∙ there.1))
  ],
)

-- the dot stands at some field of one of these keys
abbrev pub HoldsAmong : OrMapStoreValue → DotValue → Type 0
HoldsAmong entries d = (entry : List ℕ × FieldsValue) × Contains entries entry × HoldsDot (fields_at entry.1) d

-- just the dots that stand at some field of one of these keys
abbrev pub GathersKeys : List DotValue → OrMapStoreValue → Type 0
GathersKeys dots entries = (d : DotValue) → IsTrue (has dots d) ↔ HoldsAmong entries d

pub gathers_none : (dots : List DotValue) → dots ≡ [] → GathersKeys dots []
gathers_none dots none d = (λ h. absurd (let turned : false ≡ true = sym (ap (λ ds. has ds d) none) ∙ h in cc), λ (entry, in_it, there). nothing_in entry in_it)

pub gathers_key_at : (found new : List DotValue) (entries : OrMapStoreValue) (i : ℕ) (entry : List ℕ × FieldsValue) → i < length entries
    → entry ≡ get_or entries i entry
    → GathersKeys found (take i entries) → AddsFields found new entry.1 → GathersKeys new (take (i + 1) entries)
gathers_key_at found new entries i entry within at gathered added d =
    let P : OrMapStoreValue → Type 0 = λ es. IsTrue (has new d) ↔ HoldsAmong es d in
    subst P (sym (more_taken entries i entry within at)) (
      λ h. elim ((added d).0 h) [
        | inl before ↦ let there = (gathered d).0 before in (there.0, Contains-append_left (take i entries) (entry ∷ []) there.0 there.1, there.2)
        | inr now ↦ (entry, Contains-append_right (take i entries) (entry ∷ []) entry (at_head entry []), now)
      ],
      λ (one, in_it, there). (added d).1 (elim (Contains-append_cases (take i entries) (entry ∷ []) one in_it) [
        | inl before ↦ inl ((gathered d).1 (one, before, there))
        | inr last ↦ elim (head_or_tail entry [] one last) [
          | inl same ↦ inr (let Q : List ℕ × FieldsValue → Type 0 = λ e. HoldsDot (fields_at e.1) d in subst Q (sym same) there)
          | inr none_left ↦ nothing_in one none_left
        ]
      ]),
    )

-- just the dots that stand anywhere were gathered
pub gathers_clear : (live : OrMapValue) (entries : OrMapStoreValue) (dots : List DotValue)
    → ((key : List ℕ) (fields : FieldsValue) → Contains entries (key, fields) → (place : List ℕ × Unit {0}) (d : DotValue)
    → or_map_at live.0 (key, place) d ≡ fields_at fields place d)
    → ((key : List ℕ) (place : List ℕ × Unit {0}) (d : DotValue) → IsSome (or_map_at live.0 (key, place) d) → (fields : FieldsValue)
    × Contains entries (key, fields))
    → GathersKeys dots entries → IsClearAt (or_map_state live) dots
gathers_clear live entries dots held only gathered d = (
  λ h. let there = (gathered d).0 h in
      (place_of there.0.0 there.2.0.0, ap is_some (held there.0.0 there.0.1 there.1 there.2.0 d) ∙ there.2.1),
  λ (place, there). let fields = only place.key (place.field, tt) d there in
      (gathered d).1 ((place.key, fields.0), fields.1, ((place.field, tt), sym (ap is_some (held place.key fields.0 fields.1 (place.field, tt) d)) ∙ there)),
)

-- just the dots that stand at a key were gathered, from its fields, if they are there
pub gathers_key : (live : OrMapValue) (key : List ℕ) (fields : FieldsValue) (old dots : List DotValue)
    → ((place : List ℕ × Unit {0}) (d : DotValue) → or_map_at live.0 (key, place) d ≡ fields_at fields place d)
    → ((d : DotValue) → has old d ≡ false) → AddsFields old dots fields → IsRemoveAt (or_map_state live) key dots
gathers_key live key fields old dots held empty added d = (
  λ h. elim ((added d).0 h) [
    | inl before ↦ absurd (let turned : false ≡ true = sym (empty d) ∙ before in cc)
    | inr there ↦ (there.0.0, ap is_some (held there.0 d) ∙ there.1)
  ],
  λ (field, there). (added d).1 (inr ((field, tt), sym (ap is_some (held (field, tt) d)) ∙ there)),
)

pub gathers_no_key : (live : OrMapValue) (key : List ℕ) (dots : List DotValue)
    → ((place : List ℕ × Unit {0}) (d : DotValue) → or_map_at live.0 (key, place) d ≡ None)
    → ((d : DotValue) → has dots d ≡ false) → IsRemoveAt (or_map_state live) key dots
gathers_no_key live key dots nothing empty d = (
  λ h. absurd (let turned : false ≡ true = sym (empty d) ∙ h in cc),
  λ (field, there). absurd (let none : IsSome {T = List ℕ} None = rw (nothing (field, tt) d) at there in cc),
)

-- the pair that holds nothing and knows these dots
pub erasure_state : (store : OrMapStoreValue) (knows : ContextValue) (dots : List DotValue) → HasNothing (or_map_at store)
    → ((d : DotValue) → context.has knows d ≡ has dots d)
    → Same (or_map_state (store, knows)) (state (erasure dots))
erasure_state store knows dots empty known = record {
  at = λ place d. empty (path_of place) d ∙ sym (at-erasure dots place d);
  has = λ d. known d ∙ sym (has-erasure dots d);
}

pub erasure_inside : (store : OrMapStoreValue) (knows : ContextValue) → HasNothing (or_map_at store) → IsInside (state_of or_map_at (store, knows))
erasure_inside store knows empty path d some = absurd (let none : IsSome {T = List ℕ} None = rw (empty path d) at some in cc)
