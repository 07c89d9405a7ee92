use Rattle.replica_core.proofs.Firsts.{NoneBefore}
use Rattle.wire_form.specs.Session.{same_session}
use Rattle.sync_protocol.specs.Asking.{AskerValue}
use Rattle.replica_core.proofs.sessions.place_of.Given as goal

abbrev pub invariant-loop-place : goal.invariant-loop-place
invariant-loop-place g l = NoneBefore {X = AskerValue g.row.H.Denot} (λ b. same_session b.session l.session) l.sessions l.place
