use Rattle.std.specs.Prelude.{◌==◌}
use Rattle.replica_core.proofs.Firsts.{NoneBefore}
use Rattle.sync_protocol.specs.Asking.{AskerValue}
use Rattle.replica_core.proofs.sessions.place_numbered.Given as goal

abbrev pub invariant-loop-place : goal.invariant-loop-place
invariant-loop-place g l = NoneBefore {X = AskerValue g.row.H.Denot} (λ b. b.session.number == l.number) l.sessions l.place
