use Rattle.wire_form.proofs.Alls.{HasFields, all_more, tested_all, tested_not, unmet, met}
use Rattle.wire_form.proofs.standing.are_filled.Goals as goal

pub loop-fields-init : goal.loop-fields-init
loop-fields-init g c = tt

pub returns-then-not-is_filled : goal.returns-then-not-is_filled
returns-then-not-is_filled g c =
    let test = c.if-not-is_filled.ensures in
    tested_not HasFields c.args.entries.now c.loop-fields.fields-index c.loop-fields-item.result c.loop-fields-test.true c.loop-fields-item.is (unmet test)

pub loop-fields-preserved : goal.loop-fields-preserved
loop-fields-preserved g c =
    let test = c.if-not-is_filled.ensures in
    all_more HasFields c.args.entries.now c.loop-fields.fields-index c.loop-fields-item.result c.loop-fields.invariant c.loop-fields-test.true
    c.loop-fields-item.is (met test)

pub returns : goal.returns
returns g c = tested_all HasFields c.args.entries.now c.loop-fields.fields-index c.loop-fields.invariant c.loop-fields-test.false
