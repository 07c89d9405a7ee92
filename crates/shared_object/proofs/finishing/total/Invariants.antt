use Rattle.std.proofs.Common.{◌≡◌, take}
use Rattle.std.specs.List.{sum_by}
use Rattle.shared_object.specs.History.{Seat}
use Rattle.shared_object.proofs.finishing.total.Given as goal

abbrev pub invariant-loop-client : goal.invariant-loop-client
invariant-loop-client g l = l.sum ≡ sum_by (λ (s : Seat g.row.J-Event.Denot). s.operations) (take l.client-index l.clients)
