use Rattle.std.proofs.Common.{IsTrue, subst}
use Rattle.std.specs.Prelude.{◌↔◌}
use Rattle.delta_ops.specs.Group.{group_state}
use Rattle.replica_model.specs.Step.{KnowsNone}
use Rattle.replica_core.specs.Meaning.{ReplicaValue}
use Rattle.replica_core.proofs.replica.Replica.has_unsent.Goals as goal

pub returns : goal.returns
returns g c = subst (λ (r : ReplicaValue _). IsTrue c.has_dots.result ↔ (¬ KnowsNone (group_state r.group))) c.self.view_is c.has_dots.ensures
