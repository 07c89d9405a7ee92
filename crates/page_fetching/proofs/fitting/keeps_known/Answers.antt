use Rattle.page_fetching.proofs.Knowing.{knows_children}
use Rattle.page_fetching.proofs.fitting.keeps_known.Goals as goal

pub returns-then-includes : goal.returns-then-includes
returns-then-includes g c =
    knows_children c.args.seen.now c.args.known.now (g.H.PathHash.hash_of c.args.own.now.hash) c.args.own.now.map c.args.prefix c.args.children.now
    (c.includes.ensures.0 c.if-includes.true) c.requires.within
