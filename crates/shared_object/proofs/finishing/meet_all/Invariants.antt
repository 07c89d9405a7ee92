use Rattle.std.proofs.Common.{◌≡◌, ℕ, ◌<◌, ◌≤◌, Some}
use Rattle.std.specs.List.{slice_get}
use Rattle.shared_object.specs.History.{Seat}
use Rattle.shared_object.specs.Finishing.{IsOwn}
use Rattle.shared_object.proofs.finishing.meet_all.Given as goal

abbrev pub invariant-loop-client : goal.invariant-loop-client
invariant-loop-client g l = record {
  own : (i : ℕ) (s : Seat g.row.J-Event.Denot) → i < l.client-index → slice_get l.initial.clients i ≡ Some s → IsOwn g.J.Event.Placed.place l.guarded s;
  rest : (i : ℕ) → l.client-index ≤ i → slice_get l.clients i ≡ slice_get l.initial.clients i;
}
