use Rattle.wire_form.proofs.Pages.{none_behind, next_behind, all_behind}
use Rattle.wire_form.proofs.append.append_each.Goals as goal

pub loop-item-init : goal.loop-item-init
loop-item-init g c = none_behind g.T.Spelled.spell g.T.Spelled.fits c.args.out.now.items

pub loop-item-preserved : goal.loop-item-preserved
loop-item-preserved g c =
    next_behind g.T.Spelled.spell g.T.Spelled.fits c.args.out.now.items c.loop-item.out.items c.append_to.new.out.items c.args.items.now c.loop-item.item-index
    c.item-item.result c.loop-item.invariant c.loop-item-test.true c.item-item.is c.in_ok-append_to.ensures.ok

pub returns-clause-ok : goal.returns-clause-ok
returns-clause-ok g c =
    all_behind g.T.Spelled.spell g.T.Spelled.fits c.args.out.now.items c.loop-item.out.items c.args.items.now c.loop-item.item-index c.loop-item.invariant
    c.loop-item-test.false
