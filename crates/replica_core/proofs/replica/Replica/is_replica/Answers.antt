use Rattle.std.proofs.Common.{subst}
use Rattle.replica_core.specs.Own.{IsReplica}
use Rattle.replica_core.proofs.replica.Replica.is_replica.Goals as goal

pub returns-clause-replica : goal.returns-clause-replica
returns-clause-replica g c = subst (IsReplica g.H.PathHash.hash_of) c.self.view_is c.self.invariant
