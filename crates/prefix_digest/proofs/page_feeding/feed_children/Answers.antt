use Rattle.std.proofs.Common.{[]}
use Rattle.wire_form.specs.Page.{child}
use Rattle.prefix_digest.proofs.Taken.{takes_none, takes_both, more_taken, all_taken}
use Rattle.prefix_digest.proofs.page_feeding.feed_children.Goals as goal

pub loop-index-init : goal.loop-index-init
loop-index-init c = takes_none c.args.hasher.now

pub loop-index-preserved : goal.loop-index-preserved
loop-index-preserved c =
    more_taken child c.args.hasher.now c.loop-index.hasher c.update-in-loop-index.new.self [] c.args.children.now c.loop-index.index-index _
    c.loop-index.invariant c.loop-index-test.true
    (takes_both c.loop-index.hasher c.update.new.self c.update-in-loop-index.new.self _ _ c.update.ensures c.update-in-loop-index.ensures)

pub returns : goal.returns
returns c = all_taken child c.args.hasher.now c.loop-index.hasher [] c.args.children.now c.loop-index.index-index c.loop-index.invariant c.loop-index-test.false
