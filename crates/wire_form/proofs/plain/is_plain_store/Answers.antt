use Rattle.std.proofs.Common.{sym, ap, ◌∙◌}
use Rattle.std.proofs.lemmas.List.{take_all}
use Rattle.wire_form.specs.Store.{is_plain_form}
use Rattle.wire_form.proofs.Plains.{not_plain, plain_more}
use Rattle.wire_form.proofs.plain.is_plain_store.Goals as goal

pub returns-then-not-is_alone : goal.returns-then-not-is_alone
returns-then-not-is_alone g c =
    let es = c.entries-entries.result.now in
    sym (ap is_plain_form (sym c.entries-entries.ensures.rest)
    ∙ not_plain es c.loop-fields.fields-index c.loop-fields-item.result c.loop-fields-test.true c.loop-fields-item.is (sym c.if-not-is_alone.ensures))

pub loop-fields-preserved : goal.loop-fields-preserved
loop-fields-preserved g c =
    plain_more c.entries-entries.result.now c.loop-fields.fields-index c.loop-fields-item.result c.loop-fields.invariant c.loop-fields-test.true
    c.loop-fields-item.is (sym c.if-not-is_alone.ensures)

pub returns : goal.returns
returns g c =
    sym (ap is_plain_form (sym (take_all c.loop-fields.fields-index c.entries-entries.result.now c.loop-fields-test.false ∙ c.entries-entries.ensures.rest))
    ∙ c.loop-fields.invariant)
