use Rattle.std.proofs.Common.{◌≡◌, ◌++◌, length}
use Rattle.std.specs.Vec.Iter.{into_iter_items}
use Rattle.ctrie_api.specs.Run.{acted_all}
use Rattle.ctrie_api.proofs.tries.Tries.run.Given as goal

abbrev pub invariant-loop-act : goal.invariant-loop-act
invariant-loop-act g l =
    (l.yielded ++ into_iter_items l.act-iterator ≡ l.fn.acts.items)
    × (l.self ≡ acted_all l.fn.self l.yielded)
    × (l.done ≡ length l.yielded)
