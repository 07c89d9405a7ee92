use Rattle.replica_alone.proofs.Befalling.{befall_or_refused, refused_not_befalls}
use Rattle.replica_alone.proofs.standing.each_deed_befalls_or_is_refused.Goals as goal

pub returns-clause-either : goal.returns-clause-either
returns-clause-either c = befall_or_refused

pub returns-clause-not_both : goal.returns-clause-not_both
returns-clause-not_both c = refused_not_befalls
