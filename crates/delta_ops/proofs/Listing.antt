-- Keys and fields of ordered entries: over plain variables.
use Rattle.std.proofs.Common.{◌≡◌, ℕ, ◌+◌, ◌<◌, cond, List, [], ◌∷◌, ◌++◌, take, length, get_or, Contains, Option, None, Some, is_some, IsSome, refl, sym, ◌∙◌}
use Rattle.std.proofs.Common.{ap, subst, ◌↔◌, ◌⊎◌, inl, inr}
use Rattle.std.specs.declared.cmp.Ordering.TheVariants.{Less}
use Rattle.std.specs.List.{AllByRecursion}
use Rattle.std.specs.List.Sorted.{IsStrictlySortedBy}
use Rattle.std.specs.BTreeMap.{is_at}
use Rattle.std.specs.Map.{lookup, keys_of, values_of}
use Rattle.std.proofs.lemmas.List.{map-append}
use Rattle.std.proofs.lemmas.List.Elements.{All-contains}
use Rattle.std.proofs.lemmas.Map.Made.{Contains-values_of}
use Rattle.std.proofs.lemmas.Map.Views.{Contains-from_lookup}
use Rattle.causal_join.specs.OrMap.{ValuesValue, FieldsValue, OrMapStoreValue, OrMapValue, fields_at, or_map_at, or_map_state}
use Rattle.dot_store.specs.Store.{HasNothing}
use Rattle.dot_store.specs.Stores.{at_stores, at_values, held_by, NoKeyIsEmpty}
use Rattle.dots.specs.Bytes.{bytes_cmp}
use Rattle.dots.specs.Dot.{DotValue, same_dot}
use Rattle.op_model.specs.Meaning.{HoldsField, HoldsKey}
use Rattle.op_model.specs.Shown.{IsAscending}
use Rattle.op_model.proofs.Ascending.{ascends, nothing_ascends}
use Rattle.op_model.proofs.Dots.{same_dot-self}
use Rattle.op_model.proofs.Places.{same_bytes-true}
use Rattle.op_model.proofs.Members.{nothing_in, at_same, head_or_tail, in_map, from_map}
use Rattle.delta_ops.proofs.Erasing.{more_taken}

-- texts in strict order ascend
all_below : (x : List ℕ) (xs : List (List ℕ)) → AllByRecursion (λ y. bytes_cmp x y ≡ Less) xs → (y : List ℕ) → Contains xs y → bytes_cmp x y ≡ Less
all_below x [] all y h = nothing_in y h
all_below x (z ∷ xs) all y h = elim (head_or_tail z xs y h)
    [ inl same ↦ subst (λ w. bytes_cmp x w ≡ Less) same all.0 | inr later ↦ all_below x xs all.1 y later ]

pub ascends-from_sorted : (xs : List (List ℕ)) → IsStrictlySortedBy bytes_cmp xs → IsAscending xs
unfolding IsStrictlySortedBy
ascends-from_sorted [] sorted = nothing_ascends
ascends-from_sorted (x ∷ xs) sorted = ascends x xs (record { below = all_below x xs sorted.0 }) (ascends-from_sorted xs sorted.1)

-- the keys of the entries before a place
pub keys_more_at : {K X : Type 0} (copied new : List K) (entries : List (K × X)) (i : ℕ) (entry : K × X) → i < length entries → entry ≡ get_or entries i entry
    → copied ≡ keys_of (take i entries) → new ≡ copied ++ entry.0 ∷ [] → new ≡ keys_of (take (i + 1) entries)
keys_more_at copied new entries i entry within at before is =
    is ∙ ap (λ ks. ks ++ entry.0 ∷ []) before ∙ sym (map-append (λ e. e.0) (take i entries) (entry ∷ []))
    ∙ ap keys_of (sym (more_taken entries i entry within at))

-- the keys of entries are those that have an entry
pub keys_of-has : {K X : Type 0} (entries : List (K × X)) (P : K → Type 0) → ((key : K) (x : X) → Contains entries (key, x) → P key)
    → ((key : K) → P key → (x : X) × Contains entries (key, x))
    → (key : K) → Contains (keys_of entries) key ↔ P key
keys_of-has entries P to back key = (
  λ h. let entry = from_map (λ e. e.0) entries key h in to key entry.0.1 (at_same entries entry.0 (key, entry.0.1) (ap (λ k. (k, entry.0.1)) entry.2) entry.1),
  λ p. let entry = back key p in in_map (λ e. e.0) entries (key, entry.0) entry.1,
)

-- something stands in a map from dots to values that is not empty, and in a map from fields that is not
stands_somewhere : (standing : ValuesValue) → ¬ HasNothing (at_values standing) → (d : DotValue) × IsSome (at_values standing tt d)
unfolding at_values
stands_somewhere [] filled = absurd (filled (λ place d. refl))
stands_somewhere ((dot, value) ∷ standing) filled = (dot, rw (same_dot-self dot) refl)

-- what stands at a field of these, or that nothing does
abbrev pub StandsAt : FieldsValue → List ℕ → Type 0
StandsAt fields field = (d : DotValue) × IsSome (fields_at fields (field, tt) d)

abbrev pub NothingAt : FieldsValue → List ℕ → Type 0
NothingAt fields field = (d : DotValue) → fields_at fields (field, tt) d ≡ None

at_field : (fields : FieldsValue) (field : List ℕ) → StandsAt fields field ⊎ NothingAt fields field
unfolding at_stores at_values
at_field fields field = go (lookup (is_at (bytes_cmp field)) fields) refl
  where
    go : (found : Option ValuesValue) → lookup (is_at (bytes_cmp field)) fields ≡ found → StandsAt fields field ⊎ NothingAt fields field
    go None is = inr (λ d. ap (λ o. held_by at_values o tt d) is)
    go (Some []) is = inr (λ d. ap (λ o. held_by at_values o tt d) is)
    go (Some ((dot, value) ∷ standing)) is =
        inl (
          dot,
          ap (λ o. is_some (held_by at_values o tt dot)) is
              ∙ ap (λ b. is_some (cond b (Some value) (lookup (same_dot dot) standing))) (same_dot-self dot),
        )

at_any : (fields rest : FieldsValue) → ((field : List ℕ) × StandsAt fields field) ⊎ ((field : List ℕ) → Contains (keys_of rest) field → NothingAt fields field)
at_any fields [] = inr (λ field h. nothing_in field h)
at_any fields (entry ∷ rest) = by (at_field fields entry.0) (at_any fields rest)
  where
    by : StandsAt fields entry.0 ⊎ NothingAt fields entry.0 → ((field : List ℕ) × StandsAt fields field)
        ⊎ ((field : List ℕ) → Contains (keys_of rest) field → NothingAt fields field)
        → ((field : List ℕ) × StandsAt fields field) ⊎ ((field : List ℕ) → Contains (keys_of (entry ∷ rest)) field → NothingAt fields field)
    by (inl here) later = inl (entry.0, here)
    by (inr none) (inl there) = inl there
    by (inr none) (inr nowhere) = inr (λ field h. elim (head_or_tail entry.0 (keys_of rest) field h) [
      | inl same ↦ let P : List ℕ → Type 0 = NothingAt fields in subst P same none
      | inr later ↦ nowhere field later
    ])

-- nothing stands at a place of which no entry holds anything
missing : (fields : FieldsValue) (field : List ℕ) (d : DotValue) → (Contains (keys_of fields) field → NothingAt fields field)
    → fields_at fields (field, tt) d ≡ None
unfolding at_stores
missing fields field d nowhere = go (lookup (is_at (bytes_cmp field)) fields) refl
  where
    go : (found : Option ValuesValue) → lookup (is_at (bytes_cmp field)) fields ≡ found → fields_at fields (field, tt) d ≡ None
    go None is = ap (λ o. held_by at_values o tt d) is
    go (Some standing) is = nowhere (in_map (λ e. e.0) fields (field, standing) (Contains-from_lookup same_bytes-true field standing fields is)) d

-- something stands at some field where not nothing does
pub somewhere : (fields : FieldsValue) → ¬ HasNothing (fields_at fields) → (field : List ℕ) × StandsAt fields field
somewhere fields filled = by (at_any fields fields)
  where
    by : ((field : List ℕ) × StandsAt fields field) ⊎ ((field : List ℕ) → Contains (keys_of fields) field → NothingAt fields field) → (field : List ℕ)
        × StandsAt fields field
    by (inl there) = there
    by (inr nowhere) = absurd (filled (λ place d. missing fields place.0 d (nowhere place.0)))

-- the fields of a key that hold something are those of its entries
pub fields_hold : (live : OrMapValue) (key : List ℕ) (fields entries : FieldsValue)
    → ((place : List ℕ × Unit {0}) (d : DotValue) → or_map_at live.0 (key, place) d ≡ fields_at fields place d)
    → NoKeyIsEmpty at_values entries
    → ((field : List ℕ) (standing : ValuesValue) → Contains entries (field, standing) → (place : Unit {0}) (d : DotValue)
    → fields_at fields (field, place) d ≡ at_values standing place d)
    → ((field : List ℕ) (place : Unit {0}) (d : DotValue) → IsSome (fields_at fields (field, place) d) → (standing : ValuesValue)
    × Contains entries (field, standing))
    → (field : List ℕ) → Contains (keys_of entries) field ↔ HoldsField (or_map_state live) key field
fields_hold live key fields entries at filled held only =
    keys_of-has entries (HoldsField (or_map_state live) key)
    (λ field standing in_it.
    let P : ValuesValue → Type 0 = λ store. ¬ HasNothing (at_values store) in
    let some = stands_somewhere standing (All-contains P (values_of entries) standing filled (Contains-values_of entries field standing in_it)) in
    (some.0, ap is_some (at (field, tt) some.0 ∙ held field standing in_it tt some.0) ∙ some.1))
    (λ field (d, there). only field tt d (sym (ap is_some (at (field, tt) d)) ∙ there))

-- no field of a key holds anything that is not there
pub no_fields_hold : (live : OrMapValue) (key : List ℕ) (found : List (List ℕ))
    → ((place : List ℕ × Unit {0}) (d : DotValue) → or_map_at live.0 (key, place) d ≡ None) → found ≡ []
    → (field : List ℕ) → Contains found field ↔ HoldsField (or_map_state live) key field
no_fields_hold live key found nothing none field =
    let P : List (List ℕ) → Type 0 = λ fs. Contains fs field ↔ HoldsField (or_map_state live) key field in
    subst P (sym none) (λ in_it. nothing_in field in_it, λ (d, there). absurd (let no : IsSome {T = List ℕ} None = rw (nothing (field, tt) d) at there in cc))

-- the keys that hold something are those of the entries
pub keys_hold : (live : OrMapValue) (entries : OrMapStoreValue) → NoKeyIsEmpty fields_at entries
    → ((key : List ℕ) (fields : FieldsValue) → Contains entries (key, fields) → (place : List ℕ × Unit {0}) (d : DotValue)
    → or_map_at live.0 (key, place) d ≡ fields_at fields place d)
    → ((key : List ℕ) (place : List ℕ × Unit {0}) (d : DotValue) → IsSome (or_map_at live.0 (key, place) d) → (fields : FieldsValue)
    × Contains entries (key, fields))
    → (key : List ℕ) → Contains (keys_of entries) key ↔ HoldsKey (or_map_state live) key
keys_hold live entries filled held only =
    keys_of-has entries (HoldsKey (or_map_state live))
    (λ key fields in_it.
    let P : FieldsValue → Type 0 = λ store. ¬ HasNothing (fields_at store) in
    let some = somewhere fields (All-contains P (values_of entries) fields filled (Contains-values_of entries key fields in_it)) in
    (some.0, (some.1.0, ap is_some (held key fields in_it (some.0, tt) some.1.0) ∙ some.1.1)))
    (λ key (field, (d, there)). only key (field, tt) d there)
