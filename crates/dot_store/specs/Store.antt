-- Dot stores, after Almeida, Shoker and Baquero, "Delta State Replicated Data Types" (2018).
--
-- A dot store is read as a function: what it holds at each place and dot, if anything. A place is the path of
-- keys that leads to a dot. It is the pair of a key and a place below it in a map, and `tt` in a store with no keys.
use Rattle.std.specs.Prelude.{◌≡◌, Bool, Option, None, List, IsTrue, IsSome, Contains}
use Rattle.dots.specs.Dot.{DotValue}
use Rattle.op_model.specs.State.{State}

module _ {P H : Type 0} where
  -- nothing is held anywhere
  abbrev pub HasNothing : (P → DotValue → Option H) → Type 0
  HasNothing at = (place : P) (dot : DotValue) → at place dot ≡ None

  -- something is held at the dot, at some place
  abbrev pub HoldsDot : (P → DotValue → Option H) → DotValue → Type 0
  HoldsDot at dot = (place : P) × IsSome (at place dot)

  -- the two hold the same at each place and dot
  abbrev pub HoldsSame : (at other : P → DotValue → Option H) → Type 0
  HoldsSame at other = (place : P) (dot : DotValue) → at place dot ≡ other place dot

  -- each dot that is held and is known is among these
  abbrev pub HasEachKnown : (P → DotValue → Option H) → (DotValue → Bool) → List DotValue → Type 0
  HasEachKnown at known dots = (place : P) (dot : DotValue) → IsSome (at place dot) → IsTrue (known dot) → Contains dots dot

  -- the causal state of a store and a context
  abbrev pub state_with : (P → DotValue → Option H) → (DotValue → Bool) → State P H
  state_with at has = record { at = at; has = has }
