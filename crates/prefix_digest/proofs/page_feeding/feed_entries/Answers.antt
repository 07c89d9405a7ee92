use Rattle.std.proofs.Common.{[]}
use Rattle.wire_form.specs.Page.{entry}
use Rattle.prefix_digest.proofs.Taken.{takes_none, next_taken, all_taken}
use Rattle.prefix_digest.proofs.page_feeding.feed_entries.Goals as goal

pub loop-key-init : goal.loop-key-init
loop-key-init g c = takes_none c.args.hasher.now

pub loop-key-preserved : goal.loop-key-preserved
loop-key-preserved g c =
    next_taken entry c.args.hasher.now c.loop-key.hasher c.feed_named_entry.new.hasher [] c.args.entries.now c.loop-key.key-index c.loop-key-item.result
    c.loop-key.invariant c.loop-key-test.true c.loop-key-item.is
    c.feed_named_entry.ensures

pub returns : goal.returns
returns g c = all_taken entry c.args.hasher.now c.loop-key.hasher [] c.args.entries.now c.loop-key.key-index c.loop-key.invariant c.loop-key-test.false
