use Rattle.std.proofs.Common.{[]}
use Rattle.page_fetching.proofs.Knowing.{knows_part}
use Rattle.page_fetching.proofs.known.knows_all.Goals as goal

pub returns-then-includes : goal.returns-then-includes
returns-then-includes g c =
    knows_part c.args.seen.now c.args.known.now (g.H.PathHash.hash_of c.args.own.now.hash) c.args.own.now.map []
    (c.includes.ensures.0 c.if-includes.true) c.requires
