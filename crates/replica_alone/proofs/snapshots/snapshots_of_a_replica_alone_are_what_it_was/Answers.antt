use Rattle.replica_alone.proofs.Kept.{snapshots_alone, tells_alone}
use Rattle.replica_alone.proofs.Openings.{openings_are_alone}
use Rattle.replica_alone.proofs.snapshots.snapshots_of_a_replica_alone_are_what_it_was.Goals as goal

pub returns-clause-kept : goal.returns-clause-kept
returns-clause-kept c = snapshots_alone

pub returns-clause-told : goal.returns-clause-told
returns-clause-told c = tells_alone

pub returns-clause-opened : goal.returns-clause-opened
returns-clause-opened c = openings_are_alone
