-- What a replica of a world shows, told by what it has seen alone. Of this project.
use Rattle.std.specs.Prelude.{ℕ, List}
use Rattle.replica_core.specs.Showing.{ShowsOperations}
use Rattle.replica_model.specs.World.{World, Event, nothing, Runs, Unclashed}

-- over all lists of events, unless pages or values met clash
abbrev pub WorldsShow : Type 0
WorldsShow = (hash_of : List ℕ → ℕ) (events : List Event) (w : World) → Runs hash_of nothing events w → Unclashed hash_of w
    → (name : ℕ) → ShowsOperations hash_of (w.replica name).live (w.seen name)
