use Rattle.std.proofs.Common.{◌≡◌, ◌≢◌, ℕ, ◌<◌, Some}
use Rattle.std.specs.List.{slice_get}
use Rattle.shared_object.specs.History.{Seat}
use Rattle.shared_object.proofs.finishing.has.Given as goal

abbrev pub invariant-loop-at : goal.invariant-loop-at
invariant-loop-at g l = (i : ℕ) (s : Seat g.row.J-Event.Denot) → i < l.at → slice_get l.clients i ≡ Some s → s.place ≢ l.place
