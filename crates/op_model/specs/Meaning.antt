-- The state that stands for a set of operations, after Almeida, Shoker and Baquero, "Delta State Replicated Data
-- Types" (2018): a dot store in which each place holds its shown writes' values by their dots, with all
-- known dots as its context.
-- Example: {1:1 puts x on a}, {an erasure that observed 1:1} has the state in which nothing stands, and 1:1 is
-- known.
use Rattle.std.specs.Prelude.{◌≡◌, ℕ, List, [], ◌∷◌, Bool, true, false, Option, Some, None, IsSome}
use Rattle.std.specs.Ordering.{ord_max}
use Rattle.dots.specs.declared.dot.Dot.{Dot}
use Rattle.dots.specs.Dot.{same_dot}
use Rattle.op_model.specs.State.{State}
use Rattle.op_model.specs.Operation.{Write, Operation, known, has}
use Rattle.dots.specs.Bytes.{bytes_cmp}
use Rattle.op_model.specs.Place.{Place, place_of}
use Rattle.op_model.specs.Shown.{shown}

-- the greater of two values by bytes
abbrev pub greater : List ℕ → List ℕ → List ℕ
greater = ord_max bytes_cmp

-- the value, if it is wanted, and the greater one where there is another
abbrev pub greater_if : Bool → List ℕ → Option (List ℕ) → Option (List ℕ)
greater_if false value other = other
greater_if true value None = Some value
greater_if true value (Some other) = Some (greater value other)

-- the value of the write under this dot (of several, which NoReuse rules out, the greatest)
abbrev pub value_under : Dot → List Write → Option (List ℕ)
value_under dot [] = None
value_under dot (w ∷ ws) = greater_if (same_dot w.id dot) w.value (value_under dot ws)

-- the states of the map: what stands at each key and field, by dots
abbrev pub MapState : Type 0
MapState = State Place (List ℕ)

-- the state that stands for a set of operations
abbrev pub state : List Operation → MapState
state S = record { at = λ place dot. value_under dot (shown S place); has = has (known S) }

-- the value stands at the place, under some dot
abbrev pub Stands : MapState → Place → List ℕ → Type 0
Stands p place value = (dot : Dot) × (p.at place dot ≡ Some value)

-- the value stands at some field of the key
abbrev pub StandsWithin : MapState → List ℕ → List ℕ → Type 0
StandsWithin p key value = (field : List ℕ) × Stands p (place_of key field) value

-- something stands at the field of the key
abbrev pub HoldsField : MapState → List ℕ → List ℕ → Type 0
HoldsField p key field = (dot : Dot) × IsSome (p.at (place_of key field) dot)

-- something stands at some field of the key
abbrev pub HoldsKey : MapState → List ℕ → Type 0
HoldsKey p key = (field : List ℕ) × HoldsField p key field
