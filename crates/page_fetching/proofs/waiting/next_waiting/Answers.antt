use Rattle.std.proofs.Common.{◌∙◌, ap}
use Rattle.std.proofs.lemmas.Result.{IfOk-weaker}
use Rattle.std.specs.FinMap as finite
use Rattle.sync_model.specs.Fetch.{put_children}
use Rattle.page_fetching.proofs.waiting.next_waiting.Goals as goal

pub returns-clause-ok : goal.returns-clause-ok
returns-clause-ok g c =
    IfOk-weaker c.removed_and_put-next.result _ _
    (λ next is. is ∙ ap (λ trie. put_children c.args.prefix c.args.asks.now (finite.remove trie.map c.args.prefix)) c.in_ok-draft.ensures.ok)
    c.removed_and_put-next.ensures.ok
