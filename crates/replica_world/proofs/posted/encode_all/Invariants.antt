use Rattle.replica_world.proofs.Spelt.{Spelling}
use Rattle.replica_world.proofs.posted.encode_all.Given as goal

abbrev pub invariant-loop-message : goal.invariant-loop-message
invariant-loop-message g l = Spelling l.spelled.items l.messages l.message-index
