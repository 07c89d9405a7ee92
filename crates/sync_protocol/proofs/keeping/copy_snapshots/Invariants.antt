use Rattle.std.proofs.Common.{◌≡◌, ◌++◌}
use Rattle.sync_protocol.proofs.keeping.copy_snapshots.Given as goal

abbrev pub invariant-loop-session : goal.invariant-loop-session
invariant-loop-session g l = l.copies.entries ++ l.session-iterator ≡ l.kept.entries
