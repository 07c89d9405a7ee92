-- What a write in place does to one key of a map. Of this project.
use Rattle.std.specs.Prelude.{◌≡◌, ℕ, List, Bool, false, Option, None, Some, IsSome}
use Rattle.std.specs.FinMap as finite
use Rattle.std.specs.Ordering.{eq_by_cmp}
use Rattle.dots.specs.Bytes.{bytes_cmp}
use Rattle.dots.specs.Dot.{DotValue}
use Rattle.dot_store.specs.Store.{HasNothing, HoldsSame}
use Rattle.dot_store.specs.Stores.{held_by}
use Rattle.op_model.specs.State.{joined}
use Rattle.trie_map.specs.Joined.{both_at}

module _ {S P H : Type 0} (at : S → P → DotValue → Option H) where
  -- what stands at no other key changes, and at this one stands what the store holds
  pub record IsWritten (old new : finite.FinMap bytes_cmp S) (key : List ℕ) (store : S) : Type 0 where
    pub apart : (q : List ℕ) → eq_by_cmp bytes_cmp q key ≡ false → finite.get new q ≡ finite.get old q
    pub here : HoldsSame (held_by at (finite.get new key)) (at store)

  -- the store is written at the key, where there is one
  abbrev pub Writes : (old new : finite.FinMap bytes_cmp S) (key : List ℕ) → Option S → Type 0
  Writes old new key None = new ≡ old
  Writes old new key (Some store) = IsWritten old new key store

  module _ (greater : H → H → H) where
    -- what the join of what stands at a key with another store holds
    abbrev pub with_store : Option S → (DotValue → Bool) → S → (DotValue → Bool) → P → DotValue → Option H
    with_store mine own yours theirs place dot = joined greater (held_by at mine place dot) (own dot) (at yours place dot) (theirs dot)

    -- a store that holds the join, or none where the join is what stands there
    abbrev pub IsJoinHere : Option S → (DotValue → Bool) → S → (DotValue → Bool) → Option S → Type 0
    IsJoinHere mine own yours theirs None = HoldsSame (held_by at mine) (with_store mine own yours theirs)
    IsJoinHere mine own yours theirs (Some both) = HoldsSame (at both) (with_store mine own yours theirs)

    -- something is held in the join of a store with another
    abbrev pub HoldsAny : S → (DotValue → Bool) → S → (DotValue → Bool) → Type 0
    HoldsAny mine own yours theirs = (place : P) × (dot : DotValue) × IsSome (both_at at greater mine own yours theirs place dot)

    -- a store holds the join of one with another, and that is not nothing
    pub record IsJoinOf (mine : S) (own : DotValue → Bool) (yours : S) (theirs : DotValue → Bool) (both : S) : Type 0 where
      pub holds : HoldsSame (at both) (both_at at greater mine own yours theirs)
      pub filled : ¬ HasNothing (at both)

    -- the map changes at one key at most, and holds the join there
    pub record JoinsHere (old new : finite.FinMap bytes_cmp S) (key : List ℕ) (own : DotValue → Bool) (yours : S) (theirs : DotValue → Bool) : Type 0 where
      pub apart : (q : List ℕ) → eq_by_cmp bytes_cmp q key ≡ false → finite.get new q ≡ finite.get old q
      pub here : HoldsSame (held_by at (finite.get new key)) (with_store (finite.get old key) own yours theirs)
