use Rattle.std.proofs.Common.{arith, ◌∙◌, ap}
use Rattle.page_fetching.proofs.Under.{under_is}
use Rattle.page_fetching.proofs.fitting.is_under.Goals as goal

pub returns-then-depth-le7 : goal.returns-then-depth-le7
returns-then-depth-le7 g c =
    under_is (g.H.PathHash.hash_of c.args.hash) c.args.prefix c.args.key.now c.hash.result c.covers.result
    (omega (arith, c.depth-depth.ensures.length, c.depth-depth.ensures.bound))
    (c.hash.ensures ∙ ap (g.H.PathHash.hash_of c.args.hash) c.bytes.ensures.value) c.covers.ensures
