use Rattle.std.specs.List.{All}
use Rattle.delta_ops.specs.Gathers.{AreEntries}
use Rattle.delta_ops.specs.LiveMap.{as_or_map, live_state, no_dots}
use Rattle.op_model.specs.Meaning.{StandsWithin}
use Rattle.delta_ops.proofs.Gathering.{gathered_within, ascending_if, held_if, values_in}
use Rattle.delta_ops.proofs.reading.values_of_key.Goals as goal

pub returns-in-Some-clause-ascending : goal.returns-in-Some-clause-ascending
returns-in-Some-clause-ascending g c = ascending_if c.distinct_within.result (λ v. v.items) (values_in c.entries.result.now) c.distinct_within.ensures.ok

pub returns-in-Some-clause-held : goal.returns-in-Some-clause-held
returns-in-Some-clause-held g c =
    let fields = c.entries.result.now in
    held_if c.distinct_within.result (λ v. v.items) (values_in fields) (All (λ field. AreEntries field.1) fields)
    (StandsWithin (live_state (c.args.store.now, no_dots)) c.args.key.now)
    c.distinct_within.ensures.ok c.distinct_within.ensures.entries
    (λ all found gathered value. gathered_within (as_or_map (c.args.store.now, no_dots))
    c.args.key.now c.in-Some.fields.now fields found c.in-Some.ensures.held c.entries.ensures.held c.entries.ensures.only all gathered value)
