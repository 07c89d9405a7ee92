use Rattle.sync_model.specs.Fetch.{put_entries}
use Rattle.page_fetching.proofs.Children.{one_entry}
use Rattle.page_fetching.proofs.putting.put_all.Goals as goal

pub loop-key-preserved : goal.loop-key-preserved
loop-key-preserved g c =
    one_entry c.args.draft.now c.loop-key.draft c.put.new.self (put_entries c.args.entries.items c.args.draft.now.entries)
    c.loop-key.left.items c.pop.new.self.items (c.in-Some.key, c.in-Some.fields)
    c.loop-key.invariant c.in-Some.ensures.items c.in_ok-put.ensures.entries c.in_ok-put.ensures.further
