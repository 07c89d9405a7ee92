use Rattle.std.proofs.Common.{◌≡◌, take, map}
use Rattle.replica_core.proofs.sessions.named_sessions.Given as goal

abbrev pub invariant-loop-session : goal.invariant-loop-session
invariant-loop-session g l = l.found.items ≡ map (λ a. a.session) (take l.session-index l.sessions)
