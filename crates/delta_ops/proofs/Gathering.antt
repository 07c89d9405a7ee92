-- The distinct values of a list, ascending by bytes, gathered one after another: over plain variables.
use Rattle.std.proofs.Common.{◌≡◌, ℕ, ◌+◌, ◌<◌, List, [], ◌∷◌, ◌++◌, map, take, length, get_or, Contains, None, Some, is_some, IsSome, zero, suc, arith, refl}
use Rattle.std.proofs.Common.{sym, ◌∙◌, ap, subst, ◌⊎◌, ◌↔◌, inl, inr, append_assoc, Result, Ok, Err}
use Rattle.std.specs.declared.cmp.Ordering.{Ordering}
use Rattle.std.specs.declared.cmp.Ordering.TheVariants.{Less, Equal, Greater}
use Rattle.std.specs.BTreeSet.{insert_key}
use Rattle.std.specs.List.{All, flat_map}
use Rattle.std.specs.Ordering.{match_ordering}
use Rattle.std.proofs.lemmas.List.{append-nil, map-append}
use Rattle.std.proofs.lemmas.List.Elements.{All-append, All-contains, Contains-append_left, Contains-append_right, Contains-append_cases}
use Rattle.causal_join.specs.OrMap.{ValuesValue, FieldsValue, OrMapValue, fields_at, or_map_at, or_map_state}
use Rattle.dot_store.specs.Stores.{at_values}
use Rattle.dots.specs.Bytes.{bytes_cmp}
use Rattle.dots.specs.Dot.{DotValue}
use Rattle.op_model.specs.Meaning.{Stands, StandsWithin}
use Rattle.op_model.specs.Place.{Place}
use Rattle.std.specs.Prelude.{IfOk}
use Rattle.op_model.specs.Shown.{with_one, placed, IsAscending}
use Rattle.op_model.proofs.Members.{nothing_in, at_head, in_tail, head_or_tail, at_same, in_map, from_map}
use Rattle.op_model.proofs.Ascending.{nothing_ascends, from_with_one, in_with_one, with_one-ascends}
use Rattle.delta_ops.specs.Gathers.{Gathers, GathersMore, AreEntries}
use Rattle.delta_ops.proofs.Erasing.{more_taken}

pub Gathers-nothing : Gathers [] []
Gathers-nothing = record { ascending = nothing_ascends; there = λ value in_it. in_it; back = λ value in_it. in_it }

insert_is : (o : Ordering) (x y : List ℕ) (ys more more' : List (List ℕ)) → more ≡ more'
    → match_ordering o (x ∷ y ∷ ys) (y ∷ ys) (y ∷ more) ≡ placed o x y ys more'
insert_is Less x y ys more more' same = refl
insert_is Equal x y ys more more' same = refl
insert_is Greater x y ys more more' same = ap (λ rest. y ∷ rest) same

pub insert_key-with_one : (x : List ℕ) (ys : List (List ℕ)) → insert_key bytes_cmp ys x ≡ with_one x ys
insert_key-with_one x [] = refl
insert_key-with_one x (y ∷ ys) = insert_is (bytes_cmp x y) x y ys (insert_key bytes_cmp ys x) (with_one x ys) (insert_key-with_one x ys)

pub Gathers-more : (found new values : List (List ℕ)) (value : List ℕ) → Gathers found values → new ≡ insert_key bytes_cmp found value
    → Gathers new (values ++ value ∷ [])
Gathers-more found new values value gathered is =
    let P : List (List ℕ) → Type 0 = λ f. Gathers f (values ++ value ∷ []) in
    subst P (sym (is ∙ insert_key-with_one value found)) (record {
      ascending = with_one-ascends value found gathered.ascending;
      there = λ v in_it. to v (Contains-append_cases values (value ∷ []) v in_it);
      back = λ v in_it. from v (from_with_one value found v in_it);
    })
  where
    to : (v : List ℕ) → Contains values v ⊎ Contains (value ∷ []) v → Contains (with_one value found) v
    to v (inl before) = (in_with_one value found).1 v (gathered.there v before)
    to v (inr now) = elim (head_or_tail value [] v now) [
      | inl same ↦ at_same (with_one value found) value v same
          (in_with_one value found).0
      | inr none_there ↦ nothing_in v none_there
    ]

    from : (v : List ℕ) → (v ≡ value) ⊎ Contains found v → Contains (values ++ value ∷ []) v
    from v (inl same) = at_same (values ++ value ∷ []) value v (sym same) (Contains-append_right values (value ∷ []) value (at_head value []))
    from v (inr before) = Contains-append_left values (value ∷ []) v (gathered.back v before)

-- the values of the entries before a place
abbrev pub values_before : {K X : Type 0} → ℕ → List (K × X) → List X
values_before i entries = map (λ entry. entry.1) (take i entries)

pub more_value_at : {K : Type 0} (old found new : List (List ℕ)) (entries : List (K × List ℕ)) (i : ℕ) (entry : K × List ℕ) → i < length entries
    → entry ≡ get_or entries i entry
    → GathersMore old found (values_before i entries) → new ≡ insert_key bytes_cmp found entry.1 → GathersMore old new (values_before (i + 1) entries)
more_value_at old found new entries i entry within at more is values gathered =
    let P : List (List ℕ) → Type 0 = λ vs. Gathers new vs in
    subst P (append_assoc values (values_before i entries) (entry.1 ∷ []) ∙ ap (λ vs. values ++ vs)
    (sym (map-append (λ e. e.1) (take i entries) (entry ∷ [])) ∙ ap (map (λ e. e.1)) (sym (more_taken entries i entry within at))))
    (Gathers-more found new (values ++ values_before i entries) entry.1 (more values gathered) is)

-- the values of all these fields
abbrev pub values_in : FieldsValue → List (List ℕ)
values_in fields = flat_map (λ field. map (λ entry. entry.1) field.1) fields

flat_map-append : (f : List ℕ × ValuesValue → List (List ℕ)) (xs ys : FieldsValue) → flat_map f (xs ++ ys) ≡ flat_map f xs ++ flat_map f ys
flat_map-append f [] ys = refl
flat_map-append f (x ∷ xs) ys = ap (λ rest. f x ++ rest) (flat_map-append f xs ys) ∙ sym (append_assoc (f x) (flat_map f xs) (flat_map f ys))

pub more_field_at : (old found new : List (List ℕ)) (entries : FieldsValue) (i : ℕ) (entry : List ℕ × ValuesValue) → i < length entries
    → entry ≡ get_or entries i entry
    → GathersMore old found (values_in (take i entries)) → GathersMore found new (map (λ e. e.1) entry.1)
    → GathersMore old new (values_in (take (i + 1) entries))
more_field_at old found new entries i entry within at more one values gathered =
    let P : List (List ℕ) → Type 0 = λ vs. Gathers new vs in
    let last : values_in (entry ∷ []) ≡ map (λ e. e.1) entry.1 = append-nil (map (λ e. e.1) entry.1) in
    subst P (append_assoc values (values_in (take i entries)) (map (λ e. e.1) entry.1) ∙ ap (λ vs. values ++ vs)
    (ap (λ vs. values_in (take i entries) ++ vs) (sym last) ∙ sym (flat_map-append (λ field. map (λ e. e.1) field.1) (take i entries) (entry ∷ []))
    ∙ ap values_in (sym (more_taken entries i entry within at))))
    (one (values ++ values_in (take i entries)) (more values gathered))

-- ---- what was gathered is what stands

-- the values of a field were gathered: those that stand there
pub gathered_stand : (live : OrMapValue) (place : Place) (standing : ValuesValue) (found : List (List ℕ))
    → ((d : DotValue) → (or_map_state live).at place d ≡ at_values standing tt d)
    → AreEntries standing → Gathers found (map (λ entry. entry.1) standing) → (value : List ℕ) → Contains found value ↔ Stands (or_map_state live) place value
gathered_stand live place standing found held are gathered value = (
  λ in_it. let entry = from_map (λ entry. entry.1) standing value (gathered.back value in_it) in
      (entry.0.0, held entry.0.0 ∙ (are entry.0.0 value).1 (at_same standing entry.0 (entry.0.0, value) (ap (λ v. (entry.0.0, v)) entry.2) entry.1)),
  λ (dot, stands). gathered.there value (in_map (λ entry. entry.1) standing (dot, value) ((are dot value).0 (sym (held dot) ∙ stands))),
)

-- nothing was gathered where nothing stands
pub gathered_nothing : (live : OrMapValue) (place : Place) (found : List (List ℕ)) → ((d : DotValue) → (or_map_state live).at place d ≡ None) → found ≡ []
    → (value : List ℕ) → Contains found value ↔ Stands (or_map_state live) place value
gathered_nothing live place found nothing none value =
    let P : List (List ℕ) → Type 0 = λ vs. Contains vs value ↔ Stands (or_map_state live) place value in
    subst P (sym none) (λ in_it. nothing_in value in_it, λ (dot, stands). absurd (let both : None ≡ Some value = sym (nothing dot) ∙ stands in cc))

pub gathered_first : (old found more : List (List ℕ)) → old ≡ [] → GathersMore old found more → Gathers found more
gathered_first old found more empty gathers = let P : List (List ℕ) → Type 0 = λ vs. Gathers vs [] in gathers [] (subst P (sym empty) Gathers-nothing)

-- ---- over all fields of a key

-- the entries before a place, with the one that stands there
pub all_more_at : {X : Type 0} (P : X → Type 0) (xs : List X) (i : ℕ) (x : X) → i < length xs → x ≡ get_or xs i x → All P (take i xs) → P x
    → All P (take (i + 1) xs)
all_more_at {X} P xs i x within at before here = let Q : List X → Type 0 = All P in
    subst Q (sym (more_taken xs i x within at)) (All-append P (take i xs) (x ∷ []) before one)
  where
    one : All P (x ∷ [])
    one zero d l = here
    one (suc k) d l = absurd (omega (arith, l))

in_fields : (entries : FieldsValue) (field : List ℕ) (standing : ValuesValue) (value : List ℕ) → Contains entries (field, standing)
    → Contains (map (λ e. e.1) standing) value
    → Contains (values_in entries) value
in_fields [] field standing value in_it there = nothing_in (field, standing) in_it
in_fields (entry ∷ entries) field standing value in_it there = elim (head_or_tail entry entries (field, standing) in_it) [
  | inl same ↦
      let P : List ℕ × ValuesValue → Type 0 = λ e. Contains (map (λ x. x.1) e.1) value in
      Contains-append_left (map (λ e. e.1) entry.1) (values_in entries) value (subst P (sym same) there)
  | inr later ↦ Contains-append_right (map (λ e. e.1) entry.1) (values_in entries) value (in_fields entries field standing value later there)
]

from_fields : (entries : FieldsValue) (value : List ℕ) → Contains (values_in entries) value → (entry : List ℕ × ValuesValue) × Contains entries entry
    × Contains (map (λ e. e.1) entry.1) value
from_fields [] value in_it = nothing_in value in_it
from_fields (entry ∷ entries) value in_it = elim (Contains-append_cases (map (λ e. e.1) entry.1) (values_in entries) value in_it) [
  | inl here ↦ (entry, at_head entry entries, here)
  | inr later ↦ let there = from_fields entries value later in (there.0, in_tail entry entries there.0 there.1, there.2)
]

-- the values of all fields of a key were gathered: those that stand there
pub gathered_within : (live : OrMapValue) (key : List ℕ) (fields entries : FieldsValue) (found : List (List ℕ))
    → ((place : List ℕ × Unit {0}) (d : DotValue) → or_map_at live.0 (key, place) d ≡ fields_at fields place d)
    → ((field : List ℕ) (standing : ValuesValue) → Contains entries (field, standing) → (place : Unit {0}) (d : DotValue)
    → fields_at fields (field, place) d ≡ at_values standing place d)
    → ((field : List ℕ) (place : Unit {0}) (d : DotValue) → IsSome (fields_at fields (field, place) d) → (standing : ValuesValue)
    × Contains entries (field, standing))
    → All (λ entry. AreEntries entry.1) entries → Gathers found (values_in entries)
    → (value : List ℕ) → Contains found value ↔ StandsWithin (or_map_state live) key value
gathered_within live key fields entries found at held only all gathered value = (
  λ in_it. let there = from_fields entries value (gathered.back value in_it) in
      let entry = from_map (λ e. e.1) there.0.1 value there.2 in
      let are = All-contains (λ entry. AreEntries entry.1) entries there.0 all there.1 in
      let stands : at_values there.0.1 tt entry.0.0 ≡ Some value =
      (are entry.0.0 value).1 (at_same there.0.1 entry.0 (entry.0.0, value) (ap (λ v. (entry.0.0, v)) entry.2) entry.1) in
      (there.0.0, (entry.0.0, at (there.0.0, tt) entry.0.0 ∙ held there.0.0 there.0.1 there.1 tt entry.0.0 ∙ stands)),
  λ (field, (dot, stands)).
      let here : fields_at fields (field, tt) dot ≡ Some value = sym (at (field, tt) dot) ∙ stands in
      let standing = only field tt dot (ap is_some here) in
      let are = All-contains (λ entry. AreEntries entry.1) entries (field, standing.0) all standing.1 in
      gathered.there value (in_fields entries field standing.0 value standing.1
      (in_map (λ e. e.1) standing.0 (dot, value) ((are dot value).0 (sym (held field standing.0 standing.1 tt dot) ∙ here)))),
)

pub gathered_no_key : (live : OrMapValue) (key : List ℕ) (found : List (List ℕ))
    → ((place : List ℕ × Unit {0}) (d : DotValue) → or_map_at live.0 (key, place) d ≡ None) → found ≡ []
    → (value : List ℕ) → Contains found value ↔ StandsWithin (or_map_state live) key value
gathered_no_key live key found nothing none value =
    let P : List (List ℕ) → Type 0 = λ vs. Contains vs value ↔ StandsWithin (or_map_state live) key value in
    subst P (sym none) (
      λ in_it. nothing_in value in_it,
      λ (field, (dot, stands)).
          absurd (let both : None ≡ Some value = sym (nothing (field, tt) dot) ∙ stands in cc),
    )

-- one value alone
pub Gathers-one : (value : List ℕ) → Gathers (value ∷ []) (value ∷ [])
Gathers-one value = Gathers-more [] (value ∷ []) [] value Gathers-nothing refl

-- ---- of what a call answers
pub ascending_if : {V E : Type 0} (r : Result V E) (items : V → List (List ℕ)) (values : List (List ℕ)) → IfOk r (λ found. Gathers (items found) values)
    → IfOk r (λ found. IsAscending (items found))
ascending_if (Ok found) items values gathered = gathered.ascending
ascending_if (Err e) items values gathered = tt

pub held_if : {V E : Type 0} (r : Result V E) (items : V → List (List ℕ)) (values : List (List ℕ)) (P : Type 0) (held : List ℕ → Type 0)
    → IfOk r (λ found. Gathers (items found) values) → IfOk r (λ _. P)
    → (P → (found : List (List ℕ)) → Gathers found values → (value : List ℕ) → Contains found value ↔ held value)
    → IfOk r (λ found. (value : List ℕ) → Contains (items found) value ↔ held value)
held_if (Ok found) items values P held gathered p is = is p (items found) gathered
held_if (Err e) items values P held gathered p is = tt

pub gathers_if : {V E : Type 0} (r : Result V E) (items : V → List (List ℕ)) (values all : List (List ℕ)) → values ≡ all
    → IfOk r (λ found. Gathers (items found) values) → IfOk r (λ found. Gathers (items found) all)
gathers_if (Ok found) items values all same gathered = let P : List (List ℕ) → Type 0 = λ vs. Gathers (items found) vs in subst P same gathered
gathers_if (Err e) items values all same gathered = tt

pub one_if : {V E : Type 0} (r : Result V E) (items : V → List (List ℕ)) (value : List ℕ) (values : List (List ℕ)) → values ≡ value ∷ []
    → IfOk r (λ list. items list ≡ value ∷ []) → IfOk r (λ found. Gathers (items found) values)
one_if (Ok found) items value values same is = rw (is, same) (Gathers-one value)
one_if (Err e) items value values same is = tt

pub any_if : {V E P : Type 0} (r : Result V E) → P → IfOk r (λ _. P)
any_if (Ok found) p = p
any_if (Err e) p = tt

-- the one entry that there is
one_of : {X : Type 0} (xs : List X) (x : X) → length xs ≡ 1 → xs ≡ get_or xs 0 x ∷ []
one_of [] x n = absurd (omega arith)
one_of (y ∷ []) x n = refl
one_of (y ∷ z ∷ xs) x n = absurd (omega arith)

pub entry_alone : {K X : Type 0} (es : List (K × X)) (e : K × X) → length es ≡ 1 → map (λ entry. entry.1) es ≡ (get_or es 0 e).1 ∷ []
entry_alone es e n = ap (map (λ entry. entry.1)) (one_of es e n)

pub field_alone : (fields : FieldsValue) (field : List ℕ × ValuesValue) → length fields ≡ 1 → values_in fields ≡ map (λ e. e.1) (get_or fields 0 field).1
field_alone fields field n = ap values_in (one_of fields field n) ∙ append-nil (map (λ e. e.1) (get_or fields 0 field).1)

pub entries_if : {V E : Type 0} (r : Result V E) (fields : FieldsValue) (field : List ℕ × ValuesValue) → length fields ≡ 1
    → IfOk r (λ _. AreEntries (get_or fields 0 field).1)
    → IfOk r (λ _. All (λ entry. AreEntries entry.1) fields)
entries_if (Ok found) fields field n are =
    let Q : FieldsValue → Type 0 = All (λ entry. AreEntries entry.1) in
    subst Q (sym (one_of fields field n)) alone
  where
    alone : All (λ entry. AreEntries entry.1) (get_or fields 0 field ∷ [])
    alone zero d l = are
    alone (suc k) d l = absurd (omega (arith, l))
entries_if (Err e) fields field n are = tt
