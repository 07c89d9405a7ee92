use Rattle.std.proofs.Common.{sym}
use Rattle.delta_ops.specs.LiveMap.{store_state}
use Rattle.op_model.specs.Meaning.{Stands}
use Rattle.op_model.specs.Place.{place_of}
use Rattle.replica_core.specs.Reading.{Lists}
use Rattle.replica_core.proofs.Meant.{both_ok}
use Rattle.replica_core.proofs.replica.Replica.get_field.Goals as goal

pub returns-clause-ok : goal.returns-clause-ok
returns-clause-ok g c =
    both_ok c.values.result
    (λ found ascending held.
    let listed : Lists (Stands (store_state c.store.result.now) (place_of c.args.key.now c.args.field.now)) found.items =
    record { ascending = ascending; just = held } in
    rw (sym c.self.view_is) (rw c.store.ensures.value at listed))
    c.values.ensures.ascending c.values.ensures.held
