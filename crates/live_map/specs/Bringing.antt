-- A delta that brings to a pair what its join with another one brings, with few keys and few dots. Of this project.
use Rattle.std.specs.Prelude.{◌≡◌, ◌||◌, ℕ, Bool, false, List, Option, IsTrue, IsSome}
use Rattle.dots.specs.Dot.{DotValue}
use Rattle.op_model.specs.State.{State, joined}
use Rattle.live_map.specs.Index.{has_key}

-- At these keys it holds what the join does. It knows each dot that stood there, and each that is new; and none that neither side knows.
pub record BringsAt {P H : Type 0} (greater : H → H → H) (mine : List ℕ × P → DotValue → Option H) (own : DotValue → Bool)
    (yours : List ℕ × P → DotValue → Option H) (theirs : DotValue → Bool) (keys : List (List ℕ)) (delta : State (List ℕ × P) H) : Type 0 where
  pub held : (key : List ℕ) → IsTrue (has_key keys key) → (place : P) (dot : DotValue)
      → delta.at (key, place) dot ≡ joined greater (mine (key, place) dot) (own dot) (yours (key, place) dot) (theirs dot)
  pub stood : (key : List ℕ) → IsTrue (has_key keys key) → (place : P) (dot : DotValue) → IsSome (mine (key, place) dot) → IsTrue (delta.has dot)
  pub new : (dot : DotValue) → IsTrue (theirs dot) → own dot ≡ false → IsTrue (delta.has dot)
  pub known : (dot : DotValue) → IsTrue (delta.has dot) → IsTrue (own dot || theirs dot)

-- A copy of what a map holds at these keys, and nothing that it does not hold.
pub record IsCopyAt {P H : Type 0} (map : List ℕ × P → DotValue → Option H) (keys : List (List ℕ)) (copy : List ℕ × P → DotValue → Option H) : Type 0 where
  pub here : (key : List ℕ) → IsTrue (has_key keys key) → (place : P) (dot : DotValue) → copy (key, place) dot ≡ map (key, place) dot
  pub only : (place : List ℕ × P) (dot : DotValue) → IsSome (copy place dot) → IsSome (map place dot)

-- the join holds at this key what stands there
abbrev pub StaysAt : {P H : Type 0} → (H → H → H) → (mine : List ℕ × P → DotValue → Option H) (own : DotValue → Bool)
    (yours : List ℕ × P → DotValue → Option H) (theirs : DotValue → Bool)
    → List ℕ → Type 0
StaysAt {P} greater mine own yours theirs key = (place : P) (dot : DotValue)
    → mine (key, place) dot ≡ joined greater (mine (key, place) dot) (own dot) (yours (key, place) dot) (theirs dot)
