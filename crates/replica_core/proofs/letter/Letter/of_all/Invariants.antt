use Rattle.replica_core.proofs.Written.{Spelling}
use Rattle.replica_core.proofs.letter.Letter.of_all.Given as goal

abbrev pub invariant-loop-message : goal.invariant-loop-message
invariant-loop-message g l = Spelling l.spelled.items l.messages l.message-index
