-- What a state shows against what the set of operations that it stands for shows: values, fields, keys and dots.
use Rattle.std.proofs.Common.{◌≡◌, ℕ, List, map, refl, sym, ap, ◌∙◌, Bool, true, false, Option, Some, None}
use Rattle.std.specs.Prelude.{Contains, ◌↔◌, IsSome, is_some, IsTrue}
use Rattle.std.proofs.lemmas.Bool.{false≢true}
use Rattle.dots.specs.declared.dot.Dot.{Dot}
use Rattle.op_model.specs.Place.{Place, place_of}
use Rattle.op_model.specs.State.{Same}
use Rattle.op_model.specs.Operation.{Write, Operation, writes, observed, ids, has, NoReuse, IsSameSet}
use Rattle.op_model.specs.Shown.{is_on, is_within, is_anywhere, shown, shown_where, shown_within, shown_anywhere, ascending, IsAscending, values, values_of_key}
use Rattle.op_model.specs.Shown.{fields, keys}
use Rattle.op_model.specs.Meaning.{MapState, value_under, state, Stands, StandsWithin, HoldsField, HoldsKey}
use Rattle.op_model.specs.Made.{IsWithin, IsAnywhere}
use Rattle.op_model.proofs.Joins.{same-back}
use Rattle.op_model.proofs.Dots.{in_has, from_has}
use Rattle.op_model.proofs.Members.{at_same, in_map, from_map}
use Rattle.op_model.proofs.Places.{on_own, on_place, within_own, within_key}
use Rattle.op_model.proofs.Union.{found_under, stands_under}
use Rattle.op_model.proofs.SameSets.{from_shown, in_shown, shown_same, both_ways}
use Rattle.op_model.proofs.Ascending.{ascending-ascends, in_ascending, from_ascending, one_ascending}

is_there : (o : Option (List ℕ)) → (o ≡ None → ⊥) → IsSome o
is_there None f = absurd (f refl)
is_there (Some x) f = refl

pub there_is : (o : Option (List ℕ)) → IsSome o → (x : List ℕ) × (o ≡ Some x)
there_is None h = absurd (false≢true h)
there_is (Some x) h = (x, refl)

-- ---- lists of what shown writes say

-- an ascending list of just what the writes say that pass the test
list_standing : (S : List Operation) (test : Write → Bool) (said : Write → List ℕ) (found : List (List ℕ)) (P : List ℕ → Type 0) → IsAscending found →
    ((x : List ℕ) → Contains found x ↔ P x) → ((x : List ℕ) → P x ↔ Contains (map said (shown_where S test)) x)
    → found ≡ ascending (map said (shown_where S test))
list_standing S test said found P a just shows =
    one_ascending found (ascending (map said (shown_where S test))) a (ascending-ascends (map said (shown_where S test)))
    (λ x h. in_ascending (map said (shown_where S test)) x ((shows x).0 ((just x).0 h)))
    (λ x h. (just x).1 ((shows x).1 (from_ascending (map said (shown_where S test)) x h)))

-- sets with the same members say the same
said_part : (S T : List Operation) (test : Write → Bool) (said : Write → List ℕ) → IsSameSet S T → (x : List ℕ) →
    Contains (ascending (map said (shown_where S test))) x → Contains (ascending (map said (shown_where T test))) x
said_part S T test said same x h =
    let found = from_map said (shown_where S test) x (from_ascending (map said (shown_where S test)) x h) in
    in_ascending (map said (shown_where T test)) x
    (at_same (map said (shown_where T test)) (said found.0) x found.2 (in_map said (shown_where T test) found.0 (shown_same S T same test found.0 found.1)))

said-same : (S T : List Operation) (test : Write → Bool) (said : Write → List ℕ) → IsSameSet S T
    → ascending (map said (shown_where S test)) ≡ ascending (map said (shown_where T test))
said-same S T test said same =
    one_ascending (ascending (map said (shown_where S test))) (ascending (map said (shown_where T test)))
    (ascending-ascends (map said (shown_where S test))) (ascending-ascends (map said (shown_where T test)))
    (said_part S T test said same) (said_part T S test said (record { there = same.back; back = same.there }))

pub values-same : (S T : List Operation) (place : Place) → IsSameSet S T → values S place ≡ values T place
values-same S T place same = said-same S T (is_on place) (λ w. w.value) same

pub values_of_key-same : (S T : List Operation) (key : List ℕ) → IsSameSet S T → values_of_key S key ≡ values_of_key T key
values_of_key-same S T key same = said-same S T (is_within key) (λ w. w.value) same

pub fields-same : (S T : List Operation) (key : List ℕ) → IsSameSet S T → fields S key ≡ fields T key
fields-same S T key same = said-same S T (is_within key) (λ w. w.place.field) same

pub keys-same : (S T : List Operation) → IsSameSet S T → keys S ≡ keys T
keys-same S T same = said-same S T is_anywhere (λ w. w.place.key) same

-- ---- what stands is what is shown

-- a shown write, whatever the test, stands at its place under its dot
shown_stands : (S : List Operation) (test : Write → Bool) (w : Write) → Contains (shown_where S test) w → IsSome ((state S).at w.place w.id)
shown_stands S test w h =
    let parts = from_shown S test w h in
    is_there ((state S).at w.place w.id) (λ none. stands_under w.id (shown S w.place) w (in_shown S (is_on w.place) w parts.0 (on_own w) parts.2) refl none)

shown_stands_at : (S : List Operation) (test : Write → Bool) (w : Write) (place : Place) (dot : Dot) → Contains (shown_where S test) w → w.place ≡ place
    → w.id ≡ dot → IsSome ((state S).at place dot)
shown_stands_at S test w place dot h there same = sym (λ i. is_some ((state S).at (there i) (same i))) ∙ shown_stands S test w h

-- and what stands at a place is a write that is shown there
record Standing (S : List Operation) (place : Place) (dot : Dot) : Type 0 where
  write : Write
  id : write.id ≡ dot
  there : write.place ≡ place
  written : Contains (writes S) write
  unobserved : has (observed S) write.id ≡ false
  at_place : Contains (shown S place) write

standing_shown : (S : List Operation) (place : Place) (dot : Dot) → IsSome ((state S).at place dot) → Standing S place dot
standing_shown S place dot h =
    let some = there_is ((state S).at place dot) h in
    let found = found_under dot (shown S place) some.0 some.1 in
    let parts = from_shown S (is_on place) found.0 found.1 in
    record { write = found.0; id = found.2; there = on_place place found.0 parts.1; written = parts.0; unobserved = parts.2; at_place = found.1 }

-- so it is shown by each test that it passes
standing_where : (S : List Operation) (place : Place) (dot : Dot) (s : Standing S place dot) (test : Write → Bool) → test s.write ≡ true
    → Contains (shown_where S test) s.write
standing_where S place dot s test passes = in_shown S test s.write s.written passes s.unobserved

within_there : (key field : List ℕ) (w : Write) → w.place ≡ place_of key field → is_within key w ≡ true
within_there key field w there = ap (λ k. is_within k w) (sym (ap (λ p. p.key) there)) ∙ within_own w

-- the place of a write within a key
place_within : (key : List ℕ) (w : Write) → is_within key w ≡ true → w.place ≡ place_of key w.place.field
place_within key w passes = let e : w.place.key ≡ key = within_key key w passes in λ i. place_of (e i) w.place.field

-- ---- values

-- the same write's value, where the writes under the dot are all the same
value_of_write : (dot : Dot) (ws : List Write) (w : Write) → ((v : Write) → Contains ws v → v.id ≡ w.id → v ≡ w) → Contains ws w → w.id ≡ dot
    → value_under dot ws ≡ Some w.value
value_of_write dot ws w one h same = by (value_under dot ws) refl
  where
    by : (o : Option (List ℕ)) → value_under dot ws ≡ o → value_under dot ws ≡ Some w.value
    by None e = absurd (stands_under dot ws w h same e)
    by (Some x) e = let found = found_under dot ws x e in e ∙ ap Some (sym found.3 ∙ ap (λ v. v.value) (one found.0 found.1 (found.2 ∙ sym same)))

-- the writes that are shown, as a set without reuse has them
shown_value : (S : List Operation) (test : Write → Bool) (w : Write) → NoReuse S → Contains (shown_where S test) w → (state S).at w.place w.id ≡ Some w.value
shown_value S test w r h =
    let parts = from_shown S test w h in
    value_of_write w.id (shown S w.place) w (λ v g e. r.one_write v w (from_shown S (is_on w.place) v g).0 parts.0 e)
    (in_shown S (is_on w.place) w parts.0 (on_own w) parts.2) refl

shown_value_at : (S : List Operation) (test : Write → Bool) (w : Write) (place : Place) (value : List ℕ) → NoReuse S → Contains (shown_where S test) w
    → w.place ≡ place → w.value ≡ value → Stands (state S) place value
shown_value_at S test w place value r h there same = (w.id, sym (ap (λ p. (state S).at p w.id) there) ∙ shown_value S test w r h ∙ ap Some same)

-- a value stands at a place exactly where a write shown there has it
values_stand : (S : List Operation) (place : Place) (value : List ℕ) → NoReuse S
    → Stands (state S) place value ↔ Contains (map (λ w. w.value) (shown S place)) value
values_stand S place value r = (
  λ (dot, e). let found = found_under dot (shown S place) value e in
      at_same (map (λ w. w.value) (shown S place)) found.0.value value found.3 (in_map (λ w. w.value) (shown S place) found.0 found.1),
  λ h. let found = from_map (λ w. w.value) (shown S place) value h in
      shown_value_at S (is_on place) found.0 place value r found.1 (on_place place found.0 (from_shown S (is_on place) found.0 found.1).1) found.2,
)

-- and at a key exactly where a write shown within it has it
values_stand_within : (S : List Operation) (key value : List ℕ) → NoReuse S
    → StandsWithin (state S) key value ↔ Contains (map (λ w. w.value) (shown_within S key)) value
values_stand_within S key value r = (
  λ (field, (dot, e)). let found = found_under dot (shown S (place_of key field)) value e in
      let parts = from_shown S (is_on (place_of key field)) found.0 found.1 in
      let within = within_there key field found.0 (on_place (place_of key field) found.0 parts.1) in
      at_same (map (λ w. w.value) (shown_within S key)) found.0.value value found.3
      (in_map (λ w. w.value) (shown_within S key) found.0 (in_shown S (is_within key) found.0 parts.0 within parts.2)),
  λ h. let found = from_map (λ w. w.value) (shown_within S key) value h in
      let there = place_within key found.0 (from_shown S (is_within key) found.0 found.1).1 in
      (found.0.place.field, shown_value_at S (is_within key) found.0 (place_of key found.0.place.field) value r found.1 there found.2),
)

-- the same of a state that stands for the set
stands_same : (p q : MapState) (place : Place) (value : List ℕ) → Same p q → Stands p place value → Stands q place value
stands_same p q place value same (dot, e) = (dot, sym (same.at place dot) ∙ e)

stands_within_same : (p q : MapState) (key value : List ℕ) → Same p q → StandsWithin p key value → StandsWithin q key value
stands_within_same p q key value same (field, s) = (field, stands_same p q (place_of key field) value same s)

pub values_standing : (S : List Operation) (place : Place) (p : MapState) (vs : List (List ℕ)) → NoReuse S → Same p (state S) → IsAscending vs →
    ((value : List ℕ) → Contains vs value ↔ Stands p place value) → vs ≡ values S place
values_standing S place p vs r same a just =
    list_standing S (is_on place) (λ w. w.value) vs (Stands p place) a just
    (λ v. (
      λ s. (values_stand S place v r).0 (stands_same p (state S) place v same s),
      λ h. stands_same (state S) p place v (same-back p (state S) same) ((values_stand S place v r).1 h),
    ))

pub values_of_key_standing : (S : List Operation) (key : List ℕ) (p : MapState) (vs : List (List ℕ)) → NoReuse S → Same p (state S) → IsAscending vs →
    ((value : List ℕ) → Contains vs value ↔ StandsWithin p key value) → vs ≡ values_of_key S key
values_of_key_standing S key p vs r same a just =
    list_standing S (is_within key) (λ w. w.value) vs (StandsWithin p key) a just
    (λ v. (
      λ s. (values_stand_within S key v r).0 (stands_within_same p (state S) key v same s),
      λ h. stands_within_same (state S) p key v (same-back p (state S) same) ((values_stand_within S key v r).1 h),
    ))

-- ---- fields and keys

holds_field_same : (p q : MapState) (key field : List ℕ) → Same p q → HoldsField p key field → HoldsField q key field
holds_field_same p q key field same (dot, h) = (dot, sym (ap is_some (same.at (place_of key field) dot)) ∙ h)

fields_hold : (S : List Operation) (key field : List ℕ) → HoldsField (state S) key field ↔ Contains (map (λ w. w.place.field) (shown_within S key)) field
fields_hold S key field = (
  λ (dot, h). let s = standing_shown S (place_of key field) dot h in
      at_same (map (λ w. w.place.field) (shown_within S key)) s.write.place.field field (ap (λ p. p.field) s.there)
      (in_map (λ w. w.place.field) (shown_within S key) s.write
      (standing_where S (place_of key field) dot s (is_within key) (within_there key field s.write s.there))),
  λ h. let found = from_map (λ w. w.place.field) (shown_within S key) field h in
      let there = place_within key found.0 (from_shown S (is_within key) found.0 found.1).1 in
      (found.0.id, shown_stands_at S (is_within key) found.0 (place_of key field) found.0.id found.1 (there ∙ ap (place_of key) found.2) refl),
)

keys_hold : (S : List Operation) (key : List ℕ) → HoldsKey (state S) key ↔ Contains (map (λ w. w.place.key) (shown_anywhere S)) key
keys_hold S key = (
  λ (field, (dot, h)). let s = standing_shown S (place_of key field) dot h in
      at_same (map (λ w. w.place.key) (shown_anywhere S)) s.write.place.key key (ap (λ p. p.key) s.there)
      (in_map (λ w. w.place.key) (shown_anywhere S) s.write (standing_where S (place_of key field) dot s is_anywhere refl)),
  λ h. let found = from_map (λ w. w.place.key) (shown_anywhere S) key h in (
    found.0.place.field,
    (
      found.0.id,
      shown_stands_at S is_anywhere found.0 (place_of key found.0.place.field) found.0.id found.1
          (ap (λ k. place_of k found.0.place.field) found.2) refl,
    ),
  ),
)

pub fields_standing : (S : List Operation) (key : List ℕ) (p : MapState) (fs : List (List ℕ)) → Same p (state S) → IsAscending fs →
    ((field : List ℕ) → Contains fs field ↔ HoldsField p key field) → fs ≡ fields S key
fields_standing S key p fs same a just =
    list_standing S (is_within key) (λ w. w.place.field) fs (HoldsField p key) a just
    (λ f. (
      λ h. (fields_hold S key f).0 (holds_field_same p (state S) key f same h),
      λ h. holds_field_same (state S) p key f (same-back p (state S) same) ((fields_hold S key f).1 h),
    ))

pub keys_standing : (S : List Operation) (p : MapState) (ks : List (List ℕ)) → Same p (state S) → IsAscending ks →
    ((key : List ℕ) → Contains ks key ↔ HoldsKey p key) → ks ≡ keys S
keys_standing S p ks same a just =
    list_standing S is_anywhere (λ w. w.place.key) ks (HoldsKey p) a just
    (λ k. (
      λ (field, h). (keys_hold S k).0 (field, holds_field_same p (state S) k field same h),
      λ h. let held = (keys_hold S k).1 h in (held.0, holds_field_same (state S) p k held.0 (same-back p (state S) same) held.1),
    ))

-- ---- dots

-- the dots of the writes that pass a test
dot_shown : (S : List Operation) (test : Write → Bool) (dot : Dot) → has (ids (shown_where S test)) dot ≡ true → (w : Write) × Contains (shown_where S test) w
    × (w.id ≡ dot)
dot_shown S test dot h = from_map (λ w. w.id) (shown_where S test) dot (from_has (ids (shown_where S test)) dot h)

shown_dot : (S : List Operation) (test : Write → Bool) (dot : Dot) (w : Write) → Contains (shown_where S test) w → w.id ≡ dot
    → has (ids (shown_where S test)) dot ≡ true
shown_dot S test dot w h same = in_has (ids (shown_where S test)) dot
    (at_same (ids (shown_where S test)) w.id dot same (in_map (λ v. v.id) (shown_where S test) w h))

-- those that stand at a place, at a key, and anywhere
pub dots_standing : (S : List Operation) (place : Place) (dot : Dot) → has (ids (shown S place)) dot ≡ is_some ((state S).at place dot)
dots_standing S place dot =
    both_ways (has (ids (shown S place)) dot) (is_some ((state S).at place dot))
    (λ h. let found = dot_shown S (is_on place) dot h in
    shown_stands_at S (is_on place) found.0 place dot found.1 (on_place place found.0 (from_shown S (is_on place) found.0 found.1).1) found.2)
    (λ h. let s = standing_shown S place dot h in shown_dot S (is_on place) dot s.write s.at_place s.id)

pub dots_within : (S : List Operation) (key : List ℕ) (dot : Dot) → IsTrue (has (ids (shown_within S key)) dot) ↔ IsWithin (state S) key dot
dots_within S key dot = (
  λ h. let found = dot_shown S (is_within key) dot h in
      let there = place_within key found.0 (from_shown S (is_within key) found.0 found.1).1 in
      (found.0.place.field, shown_stands_at S (is_within key) found.0 (place_of key found.0.place.field) dot found.1 there found.2),
  λ (field, h). let s = standing_shown S (place_of key field) dot h in
      shown_dot S (is_within key) dot s.write (standing_where S (place_of key field) dot s (is_within key) (within_there key field s.write s.there)) s.id,
)

pub dots_anywhere : (S : List Operation) (dot : Dot) → IsTrue (has (ids (shown_anywhere S)) dot) ↔ IsAnywhere (state S) dot
dots_anywhere S dot = (
  λ h. let found = dot_shown S is_anywhere dot h in (found.0.place, shown_stands_at S is_anywhere found.0 found.0.place dot found.1 refl found.2),
  λ (place, h). let s = standing_shown S place dot h in shown_dot S is_anywhere dot s.write (standing_where S place dot s is_anywhere refl) s.id,
)
