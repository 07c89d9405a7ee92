use Rattle.std.proofs.Common.{sym}
use Rattle.delta_ops.specs.LiveMap.{store_state}
use Rattle.op_model.specs.Meaning.{StandsWithin}
use Rattle.replica_core.specs.Reading.{Lists}
use Rattle.replica_core.proofs.Meant.{both_ok}
use Rattle.replica_core.proofs.replica.Replica.values_of_key.Goals as goal

pub returns-clause-ok : goal.returns-clause-ok
returns-clause-ok g c =
    both_ok c.values_of_key.result
    (λ found ascending held.
    let listed : Lists (StandsWithin (store_state c.store.result.now) c.args.key.now) found.items = record { ascending = ascending; just = held } in
    rw (sym c.self.view_is) (rw c.store.ensures.value at listed))
    c.values_of_key.ensures.ascending c.values_of_key.ensures.held
