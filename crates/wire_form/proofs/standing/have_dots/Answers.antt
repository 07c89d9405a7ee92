use Rattle.wire_form.proofs.Alls.{HasDot, all_more, tested_all, tested_not, unmet, met}
use Rattle.wire_form.proofs.standing.have_dots.Goals as goal

pub loop-names-init : goal.loop-names-init
loop-names-init g c = tt

pub returns-then-not-has_dot : goal.returns-then-not-has_dot
returns-then-not-has_dot g c =
    let test = c.if-not-has_dot.ensures in
    tested_not HasDot c.args.entries.now c.loop-names.names-index c.loop-names-item.result c.loop-names-test.true c.loop-names-item.is (unmet test)

pub loop-names-preserved : goal.loop-names-preserved
loop-names-preserved g c =
    let test = c.if-not-has_dot.ensures in
    all_more HasDot c.args.entries.now c.loop-names.names-index c.loop-names-item.result c.loop-names.invariant c.loop-names-test.true
    c.loop-names-item.is (met test)

pub returns : goal.returns
returns g c = tested_all HasDot c.args.entries.now c.loop-names.names-index c.loop-names.invariant c.loop-names-test.false
