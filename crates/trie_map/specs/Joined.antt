-- What a join does to one key of a map. Of this project.
use Rattle.std.specs.Prelude.{◌≡◌, ℕ, List, Bool, false, Option, Some, ◌⊎◌}
use Rattle.std.specs.FinMap as finite
use Rattle.std.specs.Ordering.{eq_by_cmp}
use Rattle.dots.specs.Bytes.{bytes_cmp}
use Rattle.dots.specs.Dot.{DotValue}
use Rattle.dot_store.specs.Store.{HoldsSame}
use Rattle.dot_store.specs.Stores.{held_by}
use Rattle.op_model.specs.State.{joined}

module _ {S P H : Type 0} (at : S → P → DotValue → Option H) (greater : H → H → H) where
  -- what the join of two stores holds at a place and a dot
  abbrev pub both_at : (mine : S) (own : DotValue → Bool) (yours : S) (theirs : DotValue → Bool) → P → DotValue → Option H
  both_at mine own yours theirs place dot = joined greater (at mine place dot) (own dot) (at yours place dot) (theirs dot)

  -- The map changes at one key at most. If the key held what the first side holds there, or their join already, it holds the join;
  -- and so it does, whatever the key held, if the join is not what the first side holds.
  pub record JoinsAt (old new : finite.FinMap bytes_cmp S) (key : List ℕ) (mine : S) (own : DotValue → Bool) (yours : S)
      (theirs : DotValue → Bool) : Type 0 where
    pub apart : (q : List ℕ) → eq_by_cmp bytes_cmp q key ≡ false → finite.get new q ≡ finite.get old q
    pub here : HoldsSame (held_by at (finite.get old key)) (at mine) ⊎ HoldsSame (held_by at (finite.get old key)) (both_at mine own yours theirs)
        → HoldsSame (held_by at (finite.get new key)) (both_at mine own yours theirs)
    pub written : ¬ HoldsSame (at mine) (both_at mine own yours theirs) → HoldsSame (held_by at (finite.get new key)) (both_at mine own yours theirs)

  -- at a key of a draft stands the join of what two maps hold there
  abbrev pub IsJoinedAt : (mine : List ℕ × P → DotValue → Option H) (own : DotValue → Bool) (yours : List ℕ × P → DotValue → Option H)
      (theirs : DotValue → Bool) (draft : finite.FinMap bytes_cmp S) → List ℕ → Type 0
  IsJoinedAt mine own yours theirs draft q = (place : P) (dot : DotValue)
      → held_by at (finite.get draft q) place dot ≡ joined greater (mine (q, place) dot) (own dot) (yours (q, place) dot) (theirs dot)

  -- at a key of a draft stands what a map holds there, or the join
  abbrev pub IsEitherAt : (mine : List ℕ × P → DotValue → Option H) (own : DotValue → Bool) (yours : List ℕ × P → DotValue → Option H)
      (theirs : DotValue → Bool) (draft : finite.FinMap bytes_cmp S) → List ℕ → Type 0
  IsEitherAt mine own yours theirs draft q = ((place : P) (dot : DotValue) → held_by at (finite.get draft q) place dot ≡ mine (q, place) dot)
      ⊎ IsJoinedAt mine own yours theirs draft q

  -- the draft has at each key what the first map has, or the join; and at these keys the join
  pub record AreJoined (mine : List ℕ × P → DotValue → Option H) (own : DotValue → Bool) (yours : List ℕ × P → DotValue → Option H)
      (theirs : DotValue → Bool) (keys draft : finite.FinMap bytes_cmp S) : Type 0 where
    pub either : (q : List ℕ) → IsEitherAt mine own yours theirs draft q
    pub there : (q : List ℕ) (store : S) → finite.get keys q ≡ Some store → IsJoinedAt mine own yours theirs draft q
