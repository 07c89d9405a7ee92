use Rattle.replica_alone.proofs.Said.{same_seen_alone}
use Rattle.replica_alone.proofs.headline.replicas_alone_that_have_seen_the_same_hold_the_same.Goals as goal

pub returns : goal.returns
returns c = same_seen_alone
