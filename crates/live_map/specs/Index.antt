-- Where dots stand: an index from dots to the keys that hold them, so that a delta whose context knows a dot finds the key
-- that it is to be taken from. Of this project.
use Rattle.std.specs.Prelude.{◌≡◌, ℕ, ◌≤◌, List, Bool, Option, None, IsTrue, IsSome}
use Rattle.std.specs.declared.cmp.Ordering.{Ordering}
use Rattle.std.specs.List.{list_any}
use Rattle.std.specs.Ordering.{is_eq, ordering_then}
use Rattle.causal_context.specs.Dots.{dot_cmp}
use Rattle.dots.specs.Bytes.{bytes_cmp}
use Rattle.dots.specs.Dot.{DotValue}

-- a place of the index: a dot and a key. Places are ordered by dot, then by key
abbrev pub PlaceValue : Type 0
PlaceValue = DotValue × List ℕ

abbrev pub place_cmp : PlaceValue → PlaceValue → Ordering
place_cmp x y = ordering_then (dot_cmp x.0 y.0) (bytes_cmp x.1 y.1)

-- whether the index names the key for the dot
unfoldable pub names : List PlaceValue → DotValue → List ℕ → Bool
names places dot key = list_any (λ place. is_eq (place_cmp (dot, key) place)) places

-- whether the key is one of these
abbrev pub has_key : List (List ℕ) → List ℕ → Bool
has_key keys key = list_any (λ k. is_eq (bytes_cmp key k)) keys

-- each dot that stands at a key has the key named for it. The index may name more
abbrev pub IsIndexed : {P H : Type 0} → (List ℕ × P → DotValue → Option H) → List PlaceValue → Type 0
IsIndexed {P} at places = (key : List ℕ) (place : P) (dot : DotValue) → IsSome (at (key, place) dot) → IsTrue (names places dot key)

-- nothing stands at the place
abbrev pub IsGone : {P H : Type 0} → (List ℕ × P → DotValue → Option H) → PlaceValue → Type 0
IsGone {P} at gone = (place : P) → at (gone.1, place) gone.0 ≡ None

-- the place's dot is known, and nothing of it stands there
abbrev pub IsEnded : {P H : Type 0} → (List ℕ × P → DotValue → Option H) → (DotValue → Bool) → PlaceValue → Type 0
IsEnded {P} yours theirs ended = IsTrue (theirs ended.0) × ((place : P) → yours (ended.1, place) ended.0 ≡ None)

-- the dot has the name of the first, and a number from that of the first to the last
pub record IsInSpan (first : DotValue) (last : ℕ) (dot : DotValue) : Type 0 where
  pub name : dot.name ≡ first.name
  pub from : first.number ≤ dot.number
  pub to : dot.number ≤ last

-- these keys are all that a delta can change: those at which it holds something, and those that are named for a dot that both know
pub record IsTouched {P H : Type 0} (places : List PlaceValue) (own : DotValue → Bool) (yours : List ℕ × P → DotValue → Option H)
    (theirs : DotValue → Bool) (keys : List (List ℕ)) : Type 0 where
  pub held : (key : List ℕ) (place : P) (dot : DotValue) → IsSome (yours (key, place) dot) → IsTrue (has_key keys key)
  pub named : (dot : DotValue) (key : List ℕ) → IsTrue (names places dot key) → IsTrue (own dot) → IsTrue (theirs dot) → IsTrue (has_key keys key)

-- these keys are all at which the join of a delta changes a map: at another key the delta holds nothing, and knows no dot that stands there
pub record AreAllTouched {P H : Type 0} (mine yours : List ℕ × P → DotValue → Option H) (theirs : DotValue → Bool) (keys : List (List ℕ)) : Type 0 where
  pub own : (key : List ℕ) (place : P) (dot : DotValue) → IsSome (yours (key, place) dot) → IsTrue (has_key keys key)
  pub known : (key : List ℕ) (place : P) (dot : DotValue) → IsSome (mine (key, place) dot) → IsTrue (theirs dot) → IsTrue (has_key keys key)
