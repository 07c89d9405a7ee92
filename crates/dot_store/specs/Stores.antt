-- What the three dot stores hold, after Almeida, Shoker and Baquero, "Delta State Replicated Data Types" (2018):
-- DotSet is a set of dots, DotFun a map from dots to values, DotMap a map from keys to dot stores.
use Rattle.std.specs.Prelude.{◌≡◌, Bool, false, cond, Option, Some, None, List, Contains}
use Rattle.std.specs.declared.cmp.Ordering.{Ordering}
use Rattle.std.specs.List.{list_any, All}
use Rattle.std.specs.Ordering.{is_eq}
use Rattle.std.specs.BTreeMap.{is_at}
use Rattle.std.specs.List.Sorted.{IsStrictlySortedBy}
use Rattle.std.specs.Map.{lookup, keys_of, values_of}
use Rattle.dots.specs.Dot.{DotValue, same_dot}
use Rattle.op_model.specs.State.{joined}
use Rattle.dot_store.specs.Store.{HasNothing}

-- a set of dots holds `tt` at each of its dots
unfoldable pub at_dots : List DotValue → Unit {0} → DotValue → Option (Unit {0})
at_dots dots place dot = cond (list_any (same_dot dot) dots) (Some tt) None

-- of the two things that a set of dots can hold at a dot, the greater: there is only one
abbrev pub greater_unit : Unit {0} → Unit {0} → Unit {0}
greater_unit x y = tt

module _ {V : Type 0} where
  -- a map from dots to values holds the value of the dot
  unfoldable pub at_values : List (DotValue × V) → Unit {0} → DotValue → Option V
  at_values values place dot = lookup (same_dot dot) values

  -- what the join of two maps from dots to values holds at a dot
  abbrev pub joined_value : (V → V → V) → (mine : DotValue → Option V) (own : DotValue → Bool) (yours : DotValue → Option V)
      (theirs : DotValue → Bool) → DotValue → Option V
  joined_value greater mine own yours theirs dot = joined greater (mine dot) (own dot) (yours dot) (theirs dot)

-- each store of a map has the form of its kind
abbrev pub AreCanonical : {K S : Type 0} → (S → Type 0) → List (K × S) → Type 0
AreCanonical canonical stores = All canonical (values_of stores)

module _ {S P H : Type 0} (at : S → P → DotValue → Option H) where
  -- what a store holds, if it is there
  abbrev pub held_by : Option S → P → DotValue → Option H
  held_by None place dot = None
  held_by (Some store) place dot = at store place dot

  -- what the join of two stores, of which either may be missing, holds at a place and a dot
  abbrev pub joined_store : (H → H → H) → (mine : Option S) (own : DotValue → Bool) (yours : Option S) (theirs : DotValue → Bool) → P → DotValue → Option H
  joined_store greater mine own yours theirs place dot = joined greater (held_by mine place dot) (own dot) (held_by yours place dot) (theirs dot)

  module _ {K : Type 0} (cmp : K → K → Ordering) where
    -- a map from keys to stores holds at a key and a place what the key's store holds at that place
    unfoldable pub at_stores : List (K × S) → K × P → DotValue → Option H
    at_stores stores place dot = held_by (lookup (is_at (cmp place.0)) stores) place.1 dot

    -- what a map holds once a store is put at a key
    abbrev pub with_store : (K × P → DotValue → Option H) → K → S → K × P → DotValue → Option H
    with_store old key store place dot = cond (is_eq (cmp key place.0)) (at store place.1 dot) (old place dot)

  -- no key has an empty store
  abbrev pub NoKeyIsEmpty : {K : Type 0} → List (K × S) → Type 0
  NoKeyIsEmpty stores = All (λ store. ¬ HasNothing (at store)) (values_of stores)

  -- the form that a map from keys to stores is kept in: its keys ascend, no store is empty, and each has the form of its kind
  pub record IsCanonicalMap {K : Type 0} (cmp : K → K → Ordering) (canonical : S → Type 0) (stores : List (K × S)) : Type 0 where
    pub ordered : IsStrictlySortedBy cmp (keys_of stores)
    pub filled : NoKeyIsEmpty stores
    pub each : (key : K) (store : S) → Contains stores (key, store) → canonical store

  -- at each other key yours has no store, and mine none that holds one of these dots
  pub record IsOnlyKey {K : Type 0} (cmp : K → K → Ordering) (mine yours : List (K × S)) (dots : List DotValue) (key : K) : Type 0 where
    pub yours_none : (q : K) → is_eq (cmp key q) ≡ false → lookup (is_at (cmp q)) yours ≡ None
    pub mine_apart : (q : K) (store : S) → is_eq (cmp key q) ≡ false → lookup (is_at (cmp q)) mine ≡ Some store → (place : P) (dot : DotValue)
        → Contains dots dot → at store place dot ≡ None
