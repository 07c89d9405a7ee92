use Rattle.std.proofs.Common.{sym}
use Rattle.causal_context.specs.Context.{has}
use Rattle.causal_join.proofs.Pairs.{same_parts, inside-same, inside-has}
use Rattle.causal_join.proofs.causal.Causal.copy.Goals as goal

pub returns-clause-ok : goal.returns-clause-ok
returns-clause-ok g c =
    same_parts g.S.DotStore.at c.args.self.now (c.self.inside.store, c.self.inside.context) (c.in_ok-store.store, c.in_ok-context.context)
    c.self.view_is c.in_ok-store.ensures.ok
    (λ dot. sym (c.in_ok-context.ensures.ok dot))

pub invariant_of-result : goal.invariant_of-result
invariant_of-result g c =
    inside-same (g.S.DotStore.at c.in_ok-store.store) (g.S.DotStore.at c.self.inside.store) (has c.in_ok-context.context) c.in_ok-store.ensures.ok
    (inside-has (g.S.DotStore.at c.self.inside.store) (has c.in_ok-context.context) (has c.self.inside.context) (λ dot. sym (c.in_ok-context.ensures.ok dot))
    c.self.invariant)
