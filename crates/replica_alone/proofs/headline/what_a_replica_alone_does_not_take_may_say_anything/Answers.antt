use Rattle.replica_alone.proofs.Said.{headline_taken_alone}
use Rattle.replica_alone.proofs.headline.what_a_replica_alone_does_not_take_may_say_anything.Goals as goal

pub returns : goal.returns
returns c = headline_taken_alone
