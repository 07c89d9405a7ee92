use Rattle.delta_ops.specs.LiveMap.{store_state}
use Rattle.op_model.specs.Meaning.{HoldsKey}
use Rattle.replica_core.specs.Reading.{Lists}
use Rattle.replica_core.proofs.Meant.{both_ok}
use Rattle.replica_core.proofs.replica.Replica.keys.Goals as goal

pub returns-clause-ok : goal.returns-clause-ok
returns-clause-ok g c =
    both_ok c.keys.result
    (λ found ascending held.
    let listed : Lists (HoldsKey (store_state c.store.result.now)) found.items = record { ascending = ascending; just = held } in
    rw (← c.self.view_is) (rw c.store.ensures.value at listed))
    c.keys.ensures.ascending c.keys.ensures.held
