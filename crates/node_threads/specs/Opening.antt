-- What a node is that was just made. Of this project.
use Rattle.std.specs.Prelude.{ℕ}
use Rattle.node_threads.specs.declared.node_event.NodeEvent.{NodeEvent}
use Rattle.shared_object.specs.Finishing.{NothingHappened}

-- Nothing has happened at a node of which so many places were taken: whatever history its clients can be handed in with is empty.
abbrev pub HasNoHistory : Type 0 → ℕ → Type 0
HasNoHistory A taken = NothingHappened {E = NodeEvent A} (λ e. e.place) taken
