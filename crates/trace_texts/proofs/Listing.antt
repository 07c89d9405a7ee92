-- What stands in a finite state is listed: the values at a place and at a key, the fields of a key, and the keys.
use Rattle.std.proofs.Common.{◌≡◌, ◌⊎◌, inl, inr, ℕ, List, [], ◌∷◌, ◌++◌, map, Bool, true, Option, Some, None, refl, sym, ap, ◌∙◌, subst, get_or}
use Rattle.std.specs.Prelude.{Contains, IsSome, is_some}
use Rattle.std.specs.List.{All, filter, list_any, filter_map, flat_map, cons_option}
use Rattle.std.specs.Map.{keys_of}
use Rattle.std.proofs.lemmas.List.Elements.{All-map, Contains-append_cases, Contains-append_left, Contains-append_right}
use Rattle.std.proofs.lemmas.Option.{same_Some}
use Rattle.dots.specs.declared.dot.Dot.{Dot}
use Rattle.op_model.specs.Meaning.{MapState, Stands, StandsWithin, HoldsField, HoldsKey}
use Rattle.op_model.specs.Place.{Place, place_of}
use Rattle.op_model.specs.Shown.{ascending}
use Rattle.op_model.specs.State.{IsInside}
use Rattle.op_model.proofs.Ascending.{ascending-ascends, in_ascending, from_ascending}
use Rattle.op_model.proofs.Dots.{from_has}
use Rattle.op_model.proofs.Members.{nothing_in, at_head, in_tail, head_or_tail, at_same, in_map, from_map, in_filter, from_filter}
use Rattle.sync_model.proofs.Members.{In-Contains}
use Rattle.replica_core.specs.Reading.{Lists}
use Rattle.replica_model.proofs.Built.{some_of, some_passes, any_passes}
use Rattle.replica_model.proofs.Finite.{IsFinite}

-- ---- lists

-- what a function gives of the members
in_given : {D X : Type 0} (f : D → Option X) (ds : List D) (d : D) (x : X) → Contains ds d → f d ≡ Some x → Contains (filter_map f ds) x
in_given f [] d x h e = nothing_in d h
in_given {X = X} f (c ∷ ds) d x h e = step (f c) refl (head_or_tail c ds d h) (in_given f ds d x)
  where
    step : (o : Option X) → f c ≡ o → (c ≡ d) ⊎ Contains ds d → (Contains ds d → f d ≡ Some x → Contains (filter_map f ds) x)
        → Contains (cons_option o (filter_map f ds)) x
    step None is (inl same) further = absurd (let both : None ≡ Some x = sym is ∙ ap f same ∙ e in cc)
    step None is (inr t) further = further t e
    step (Some y) is (inl same) further =
        at_same (y ∷ filter_map f ds) y x (same_Some y x (sym is ∙ ap f same ∙ e)) (at_head y (filter_map f ds))
    step (Some y) is (inr t) further = in_tail y (filter_map f ds) x (further t e)

from_given : {D X : Type 0} (f : D → Option X) (ds : List D) (x : X) → Contains (filter_map f ds) x → (d : D) × (f d ≡ Some x)
from_given f [] x h = nothing_in x h
from_given {D = D} {X = X} f (c ∷ ds) x h = step (f c) refl h (from_given f ds x)
  where
    step : (o : Option X) → f c ≡ o → Contains (cons_option o (filter_map f ds)) x → (Contains (filter_map f ds) x → (d : D) × (f d ≡ Some x))
        → (d : D) × (f d ≡ Some x)
    step None is t further = further t
    step (Some y) is t further = by (head_or_tail y (filter_map f ds) x t)
      where
        by : (y ≡ x) ⊎ Contains (filter_map f ds) x → (d : D) × (f d ≡ Some x)
        by (inl same) = (c, is ∙ ap Some same)
        by (inr u) = further u

-- the members of the lists that a function gives
in_joined : {D X : Type 0} (f : D → List X) (ds : List D) (d : D) (x : X) → Contains ds d → Contains (f d) x → Contains (flat_map f ds) x
in_joined f [] d x h i = nothing_in d h
in_joined {X = X} f (c ∷ ds) d x h i = step (head_or_tail c ds d h) (in_joined f ds d x)
  where
    step : (c ≡ d) ⊎ Contains ds d → (Contains ds d → Contains (f d) x → Contains (flat_map f ds) x) → Contains (f c ++ flat_map f ds) x
    step (inl same) further = Contains-append_left (f c) (flat_map f ds) x (subst (λ y. Contains (f y) x) (sym same) i)
    step (inr t) further = Contains-append_right (f c) (flat_map f ds) x (further t i)

from_joined : {D X : Type 0} (f : D → List X) (ds : List D) (x : X) → Contains (flat_map f ds) x → (d : D) × Contains (f d) x
from_joined f [] x h = nothing_in x h
from_joined {D = D} {X = X} f (c ∷ ds) x h = step (Contains-append_cases (f c) (flat_map f ds) x h) (from_joined f ds x)
  where
    step : Contains (f c) x ⊎ Contains (flat_map f ds) x → (Contains (flat_map f ds) x → (d : D) × Contains (f d) x) → (d : D) × Contains (f d) x
    step (inl t) further = (c, t)
    step (inr t) further = further t

-- a list of just these, in order
lists : (P : List ℕ → Type 0) (xs : List (List ℕ)) → ((x : List ℕ) → Contains xs x → P x) → ((x : List ℕ) → P x → Contains xs x) → Lists P (ascending xs)
lists P xs means back = record {
  ascending = ascending-ascends xs;
  just = λ x. (λ h. means x (from_ascending xs x h), λ h. in_ascending xs x (back x h));
}

-- ---- each label with a list

pub labelled : (List ℕ → List (List ℕ)) → List (List ℕ) → List (List ℕ × List (List ℕ))
labelled f labels = map (λ label. (label, f label)) labels

pub labels_of : (f : List ℕ → List (List ℕ)) (labels : List (List ℕ)) → keys_of (labelled f labels) ≡ labels
unfolding labelled
labels_of f [] = refl
labels_of f (label ∷ labels) = ap (λ rest. label ∷ rest) (labels_of f labels)

pub each_labelled : (P : List ℕ → List (List ℕ) → Type 0) (f : List ℕ → List (List ℕ)) (labels : List (List ℕ)) → ((label : List ℕ) → P label (f label))
    → All (λ e. P e.0 e.1) (labelled f labels)
unfolding labelled
each_labelled P f labels each = All-map (λ e. P e.0 e.1) (λ label. (label, f label)) labels (λ k d lt. each (get_or labels k d))

-- ---- what stands

module _ (p : MapState) (is : IsFinite p) (inside : IsInside p) where
  known_at : (place : Place) (dot : Dot) → IsSome (p.at place dot) → Contains is.dots dot
  known_at place dot some = from_has is.dots dot (sym (is.knows dot) ∙ inside place dot some)

  listed : (place : Place) (dot : Dot) → IsSome (p.at place dot) → Contains is.places place
  listed place dot some = let there = some_of (p.at place dot) some in is.at place dot there.0 there.1

  standing : Place → List (List ℕ)
  standing place = filter_map (p.at place) is.dots

  pub values_at : Place → List (List ℕ)
  values_at place = ascending (standing place)

  from_standing : (place : Place) (v : List ℕ) → Contains (standing place) v → Stands p place v
  unfolding standing
  from_standing place v h = from_given (p.at place) is.dots v h

  in_standing : (place : Place) (v : List ℕ) → Stands p place v → Contains (standing place) v
  unfolding standing
  in_standing place v (dot, e) = in_given (p.at place) is.dots dot v (known_at place dot (ap is_some e)) e

  pub values_listed : (place : Place) → Lists (Stands p place) (values_at place)
  unfolding values_at
  values_listed place = lists (Stands p place) (standing place) (from_standing place) (in_standing place)

  standing_within : List ℕ → List (List ℕ)
  standing_within key = flat_map (λ (place : Place). standing (place_of key place.field)) is.places

  pub values_within : List ℕ → List (List ℕ)
  values_within key = ascending (standing_within key)

  pub values_within_listed : (key : List ℕ) → Lists (StandsWithin p key) (values_within key)
  unfolding values_within standing_within
  values_within_listed key = lists (StandsWithin p key) (standing_within key) means back
    where
      means : (v : List ℕ) → Contains (flat_map (λ (place : Place). standing (place_of key place.field)) is.places) v → StandsWithin p key v
      means v h =
          let at = from_joined (λ (place : Place). standing (place_of key place.field)) is.places v h in
          (at.0.field, from_standing (place_of key at.0.field) v at.1)

      back : (v : List ℕ) → StandsWithin p key v → Contains (flat_map (λ (place : Place). standing (place_of key place.field)) is.places) v
      back v (field, (dot, e)) =
          in_joined (λ (place : Place). standing (place_of key place.field)) is.places (place_of key field) v (listed (place_of key field) dot (ap is_some e))
          (in_standing (place_of key field) v (dot, e))

  -- whether something stands at a place
  holds : Place → Bool
  holds place = list_any (λ dot. is_some (p.at place dot)) is.dots

  from_holds : (place : Place) → holds place ≡ true → (dot : Dot) × IsSome (p.at place dot)
  unfolding holds
  from_holds place e = let one = some_passes (λ dot. is_some (p.at place dot)) is.dots e in (one.0, one.2)

  is_held : (place : Place) (dot : Dot) → IsSome (p.at place dot) → holds place ≡ true
  unfolding holds
  is_held place dot some = any_passes (λ dot. is_some (p.at place dot)) is.dots dot (In-Contains is.dots dot (known_at place dot some)) some

  held_fields : List ℕ → List (List ℕ)
  held_fields key = filter (λ field. holds (place_of key field)) (map (λ (place : Place). place.field) is.places)

  pub fields_at : List ℕ → List (List ℕ)
  fields_at key = ascending (held_fields key)

  pub fields_listed : (key : List ℕ) → Lists (HoldsField p key) (fields_at key)
  unfolding fields_at held_fields
  fields_listed key = lists (HoldsField p key) (held_fields key) means back
    where
      means : (field : List ℕ) → Contains (held_fields key) field → HoldsField p key field
      means field h = from_holds (place_of key field) (from_filter (λ f. holds (place_of key f)) (map (λ (place : Place). place.field) is.places) field h).1

      back : (field : List ℕ) → HoldsField p key field → Contains (held_fields key) field
      back field (dot, some) =
          in_filter (λ f. holds (place_of key f)) (map (λ (place : Place). place.field) is.places) field
          (in_map (λ (place : Place). place.field) is.places (place_of key field) (listed (place_of key field) dot some))
          (is_held (place_of key field) dot some)

  held_keys : List (List ℕ)
  held_keys = map (λ (place : Place). place.key) (filter holds is.places)

  pub keys_there : List (List ℕ)
  keys_there = ascending held_keys

  pub keys_listed : Lists (HoldsKey p) keys_there
  unfolding keys_there held_keys
  keys_listed = lists (HoldsKey p) held_keys means back
    where
      means : (key : List ℕ) → Contains held_keys key → HoldsKey p key
      means key h =
          let at = from_map (λ (place : Place). place.key) (filter holds is.places) key h in
          let some = from_holds at.0 (from_filter holds is.places at.0 at.1).1 in
          (at.0.field, (some.0, subst (λ k. IsSome (p.at (place_of k at.0.field) some.0)) at.2 some.1))

      back : (key : List ℕ) → HoldsKey p key → Contains held_keys key
      back key (field, (dot, some)) =
          in_map (λ (place : Place). place.key) (filter holds is.places) (place_of key field)
          (in_filter holds is.places (place_of key field) (listed (place_of key field) dot some) (is_held (place_of key field) dot some))
