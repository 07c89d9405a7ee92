use Rattle.delta_ops.specs.LiveMap.{store_state}
use Rattle.op_model.specs.Meaning.{HoldsField}
use Rattle.replica_core.specs.Reading.{Lists}
use Rattle.replica_core.proofs.Meant.{both_ok}
use Rattle.replica_core.proofs.replica.Replica.fields.Goals as goal

pub returns-clause-ok : goal.returns-clause-ok
returns-clause-ok g c =
    both_ok c.fields.result
    (λ found ascending held.
    let listed : Lists (HoldsField (store_state c.store.result.now) c.args.key.now) found.items = record { ascending = ascending; just = held } in
    rw (← c.self.view_is) (rw c.store.ensures.value at listed))
    c.fields.ensures.ascending c.fields.ensures.held
