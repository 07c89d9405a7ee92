use Rattle.std.proofs.Common.{refl}
use Rattle.causal_join.proofs.Pairs.{below_by_parts}
use Rattle.causal_join.proofs.causal.Causal.is_below.Goals as goal

pub returns-clause-ok : goal.returns-clause-ok
returns-clause-ok g c =
    below_by_parts g.S.DotStore.at g.S.DotStore.greater c.args.self.now c.args.other.now c.in_ok-both.both (c.self.inside.store, c.self.inside.context)
    (c.other.inside.store, c.other.inside.context)
    (c.both.inside.store, c.both.inside.context) c.same-below.result c.self.view_is c.other.view_is c.both.view_is (c.if-not-includes.ensures.0 refl)
    c.in_ok-both.ensures.ok c.same-below.ensures
