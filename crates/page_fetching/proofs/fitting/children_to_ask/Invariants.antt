use Rattle.std.proofs.Common.{◌≡◌, take}
use Rattle.sync_model.specs.Fetch as model
use Rattle.page_fetching.proofs.fitting.children_to_ask.Given as goal

abbrev pub invariant-loop-child : goal.invariant-loop-child
invariant-loop-child g l = l.asks.items ≡ model.to_ask (g.H.PathHash.hash_of l.own.hash) l.own.map l.fn.prefix (take l.child-index l.children)
