use Rattle.std.proofs.Common.{inr, ap}
use Rattle.delta_ops.specs.LiveMap.{store_state}
use Rattle.op_model.specs.Meaning.{Stands}
use Rattle.op_model.specs.Place.{plain}
use Rattle.replica_core.specs.Reading.{Lists}
use Rattle.trace_world.proofs.ReadTexts.{values_told, stands_same}
use Rattle.trace_world.proofs.reading.look_at.Goals as goal

pub returns : goal.returns
returns g c = λ live same.
    let state = store_state c.args.store.now in
    let lists : Lists (Stands state (plain c.in_ok-key.key)) c.in_ok-found.found.items =
    record { ascending = c.in_ok-found.ensures.ascending; just = rw c.empty.ensures at c.in_ok-found.ensures.held } in
    inr (
      c.in_ok-key.ensures.ok.1,
      values_told live (plain c.args.key.now) (plain c.in_ok-key.key) c.in_ok-found.found.items c.as_slice.result.now c.in_ok-text.text.items
          (ap plain c.in_ok-key.ensures.ok.0)
          (stands_same state live (plain c.in_ok-key.key) c.in_ok-found.found.items same lists) c.as_slice.ensures.value c.in_ok-text.ensures.ok,
    )
