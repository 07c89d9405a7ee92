-- The numbers of the dots that are known in a world. Of this project.
use Rattle.std.specs.Prelude.{ℕ, ◌≤◌, ◌<◌, ◌^◌, List, Bool, IsTrue}
use Rattle.dots.specs.Dot.{DotValue}
use Rattle.replica_model.specs.World.{World, Event, nothing, Runs}

-- each known dot has a number that a dot can have: from 1 on, in 64 bits
abbrev pub IsNumbered : (DotValue → Bool) → Type 0
IsNumbered known = (dot : DotValue) → IsTrue (known dot) → (1 ≤ dot.number) × (dot.number < 2 ^ 64)

-- so it is with what each replica knows, after every list of events, whatever clashed
abbrev pub KnownDotsAreNumbered : Type 0
KnownDotsAreNumbered = (hash_of : List ℕ → ℕ) (events : List Event) (w : World) → Runs hash_of nothing events w
    → (name : ℕ) → IsNumbered (w.replica name).live.has
