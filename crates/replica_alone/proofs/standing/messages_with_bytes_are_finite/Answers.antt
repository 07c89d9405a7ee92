use Rattle.replica_alone.proofs.Spelled.{spelled_finite}
use Rattle.replica_alone.proofs.standing.messages_with_bytes_are_finite.Goals as goal

pub returns : goal.returns
returns c = spelled_finite
