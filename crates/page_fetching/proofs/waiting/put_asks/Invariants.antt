use Rattle.std.proofs.Common.{◌≡◌, length}
use Rattle.sync_model.specs.Fetch.{put_children}
use Rattle.page_fetching.proofs.waiting.put_asks.Given as goal

abbrev pub invariant-loop-last : goal.invariant-loop-last
invariant-loop-last g l = put_children l.fn.prefix l.left l.draft.map ≡ put_children l.fn.prefix l.asks l.fn.draft.map

abbrev pub decreases-loop-last : goal.decreases-loop-last
decreases-loop-last g l = length l.left
