use Rattle.std.proofs.Common.{◌∙◌, ap}
use Rattle.std.proofs.lemmas.Result.{IfOk-weaker}
use Rattle.std.specs.FinMap as finite
use Rattle.sync_model.specs.Fetch.{put_children}
use Rattle.page_fetching.proofs.waiting.removed_and_put.Goals as goal

pub returns-clause-ok : goal.returns-clause-ok
returns-clause-ok g c =
    IfOk-weaker c.share.result _ _
    (λ next is. ap (λ trie. trie.map) is ∙ c.in_ok-put_asks.ensures.ok
    ∙ ap (put_children c.args.prefix c.args.asks.now) (ap (λ trie. trie.map) c.in_ok-remove.ensures.ok
    ∙ ap (finite.remove c.args.draft.now.map) c.in_ok-key.ensures.ok))
    c.share.ensures.ok
