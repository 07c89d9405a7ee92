use Rattle.std.proofs.Common.{subst}
use Rattle.std.proofs.lemmas.List.{take_all}
use Rattle.std.specs.List.{All}
use Rattle.causal_join.specs.OrMap.{FieldsValue}
use Rattle.delta_ops.specs.Gathers.{GathersMore, AreEntries}
use Rattle.delta_ops.proofs.Gathering.{values_in, more_field_at, all_more_at}
use Rattle.delta_ops.proofs.reading.gather_fields.Goals as goal

pub loop-standing-preserved : goal.loop-standing-preserved
loop-standing-preserved g c = (
  more_field_at c.args.found.now.keys c.loop-standing.found.keys c.gather_values.new.found.keys c.args.fields.now c.loop-standing.standing-index
      c.loop-standing-item.result
      c.loop-standing-test.true c.loop-standing-item.is c.loop-standing.invariant.0 c.in_ok-gather_values.ensures.ok,
  all_more_at (λ field. AreEntries field.1) c.args.fields.now c.loop-standing.standing-index c.loop-standing-item.result
      c.loop-standing-test.true c.loop-standing-item.is c.loop-standing.invariant.1 c.in_ok-gather_values.ensures.entries,
)

pub returns-clause-ok : goal.returns-clause-ok
returns-clause-ok g c =
    let P : FieldsValue → Type 0 = λ entries. GathersMore c.args.found.now.keys c.loop-standing.found.keys (values_in entries) in
    subst P (take_all c.loop-standing.standing-index c.args.fields.now c.loop-standing-test.false) c.loop-standing.invariant.0

pub returns-clause-entries : goal.returns-clause-entries
returns-clause-entries g c =
    let P : FieldsValue → Type 0 = All (λ field. AreEntries field.1) in
    subst P (take_all c.loop-standing.standing-index c.args.fields.now c.loop-standing-test.false) c.loop-standing.invariant.1
