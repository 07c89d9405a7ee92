use Rattle.std.specs.Map.{values_of}
use Rattle.delta_ops.specs.Gathers.{AreEntries}
use Rattle.delta_ops.specs.LiveMap.{as_or_map, live_state, no_dots}
use Rattle.op_model.specs.Meaning.{Stands}
use Rattle.op_model.specs.Place.{place_of}
use Rattle.delta_ops.proofs.Gathering.{gathered_stand, ascending_if, held_if}
use Rattle.delta_ops.proofs.reading.values.Goals as goal

pub returns-in-Some-clause-ascending : goal.returns-in-Some-clause-ascending
returns-in-Some-clause-ascending g c = ascending_if c.distinct.result (λ v. v.items) (values_of c.in-Some.standing.now) c.distinct.ensures.ok

pub returns-in-Some-clause-held : goal.returns-in-Some-clause-held
returns-in-Some-clause-held g c =
    let place = place_of c.args.key.now c.args.field.now in
    let standing = c.in-Some.standing.now in
    held_if c.distinct.result (λ v. v.items) (values_of standing) (AreEntries standing) (Stands (live_state (c.args.store.now, no_dots)) place)
    c.distinct.ensures.ok c.distinct.ensures.entries
    (λ are found gathered value. gathered_stand (as_or_map (c.args.store.now, no_dots)) place standing found c.in-Some.ensures.held are gathered value)
