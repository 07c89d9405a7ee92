use Rattle.causal_context.specs.Context.{has}
use Rattle.op_model.specs.State.{join}
use Rattle.causal_join.specs.Causal.{state_of}
use Rattle.causal_join.proofs.Pairs.{joined_parts, inside-same, inside-has, inside-join}
use Rattle.causal_join.proofs.causal.Causal.join.Goals as goal

pub returns-clause-ok : goal.returns-clause-ok
returns-clause-ok g c =
    joined_parts g.S.DotStore.at g.S.DotStore.greater c.args.self.now c.args.other.now (c.self.inside.store, c.self.inside.context)
    (c.other.inside.store, c.other.inside.context)
    (c.in_ok-store.store, c.in_ok-context.context) c.self.view_is c.other.view_is c.in_ok-store.ensures.ok c.in_ok-context.ensures.ok

pub invariant_of-result : goal.invariant_of-result
invariant_of-result g c =
    let own = state_of g.S.DotStore.at (c.self.inside.store, c.self.inside.context) in
    let theirs = state_of g.S.DotStore.at (c.other.inside.store, c.other.inside.context) in
    let both = join g.S.DotStore.greater own theirs in
    inside-same (g.S.DotStore.at c.in_ok-store.store) both.at (has c.in_ok-context.context) c.in_ok-store.ensures.ok
    (inside-has both.at (has c.in_ok-context.context) both.has c.in_ok-context.ensures.ok
    (inside-join g.S.DotStore.greater own theirs c.self.invariant c.other.invariant))
