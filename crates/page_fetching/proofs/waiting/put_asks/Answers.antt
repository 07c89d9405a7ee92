use Rattle.std.proofs.Common.{◌∙◌, ap}
use Rattle.std.specs.FinMap as finite
use Rattle.sync_model.specs.Fetch.{put_children}
use Rattle.page_fetching.proofs.Children.{one_put}
use Rattle.page_fetching.proofs.waiting.put_asks.Goals as goal

pub loop-last-preserved : goal.loop-last-preserved
loop-last-preserved g c =
    one_put c.args.prefix (put_children c.args.prefix c.args.asks.now c.args.draft.now.map)
    c.loop-last.draft.map c.insert.new.self.map c.loop-last.left.now c.in-Some.rest.now c.in-Some.last.now
    c.loop-last.invariant c.in-Some.ensures.cases.0
    (ap (λ trie. trie.map) c.in_ok-insert.ensures.ok ∙ ap (λ key. finite.insert c.loop-last.draft.map key c.in-Some.last.now.1) c.in_ok-key.ensures.ok)
