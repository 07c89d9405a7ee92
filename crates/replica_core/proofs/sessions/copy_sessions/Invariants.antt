use Rattle.std.proofs.Common.{◌≡◌, take}
use Rattle.replica_core.proofs.sessions.copy_sessions.Given as goal

abbrev pub invariant-loop-session : goal.invariant-loop-session
invariant-loop-session g l = l.copies.items ≡ take l.session-index l.sessions
