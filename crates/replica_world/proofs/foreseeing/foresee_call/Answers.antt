use Rattle.std.proofs.Common.{ap, is_some, sym}
use Rattle.replica_core.specs.Writing.{call_value}
use Rattle.replica_world.proofs.Refusing.{foretells_no_peer, foretells_call}
use Rattle.replica_world.proofs.foreseeing.foresee_call.Goals as goal

pub returns-then-not-has_peer : goal.returns-then-not-has_peer
returns-then-not-has_peer g c hash messages =
    foretells_no_peer hash c.args.replicas.now messages c.args.name (call_value c.args.call.now) (ap is_some c.in-Some.ensures.value)
    (λ w keeps. c.if-not-has_peer.ensures hash messages w keeps)

pub returns : goal.returns
returns g c hash messages =
    foretells_call hash c.args.replicas.now messages c.args.name (call_value c.args.call.now) c.in-Some.replica.now c.refusal_of.result
    (sym c.in-Some.ensures.value)
    (λ w keeps. c.if-not-has_peer.ensures hash messages w keeps) c.refusal_of.ensures
