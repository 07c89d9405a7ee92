use Rattle.replica_alone.proofs.Adding.{joins_add_alone, others_add_nothing_alone, calls_add_alone}
use Rattle.replica_alone.proofs.seen.other_deeds_of_a_replica_alone_add_what_they_bring.Goals as goal

pub returns-clause-joined : goal.returns-clause-joined
returns-clause-joined c = joins_add_alone

pub returns-clause-others : goal.returns-clause-others
returns-clause-others c = others_add_nothing_alone

pub returns-clause-calls : goal.returns-clause-calls
returns-clause-calls c = calls_add_alone
