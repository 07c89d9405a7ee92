use Rattle.replica_model.proofs.EndsAlone.{ends_alone}
use Rattle.replica_model.proofs.replica_alone.a_session_of_a_replica_alone_joins_what_its_opening_shows.Goals as goal

pub returns : goal.returns
returns c = ends_alone
