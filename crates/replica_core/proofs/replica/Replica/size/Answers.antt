use Rattle.delta_ops.specs.LiveMap.{store_state}
use Rattle.op_model.specs.Meaning.{HoldsKey}
use Rattle.replica_core.specs.Reading.{Lists}
use Rattle.replica_core.proofs.replica.Replica.size.Goals as goal

pub returns : goal.returns
returns g c =
    let all = c.size.ensures in
    let listed : Lists (HoldsKey (store_state c.store.result.now)) all.0 = record { ascending = all.1; just = all.2 } in
    rw (← c.self.view_is) (all.0, rw c.store.ensures.value at listed, all.3)
