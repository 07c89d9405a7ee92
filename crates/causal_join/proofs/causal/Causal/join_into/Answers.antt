use Rattle.std.proofs.Common.{sym, subst}
use Rattle.op_model.specs.State.{join, Same}
use Rattle.causal_join.specs.Causal.{state_of}
use Rattle.causal_join.proofs.causal.Causal.join_into.Goals as goal

pub returns-clause-ok : goal.returns-clause-ok
returns-clause-ok g c =
    let own = state_of g.S.DotStore.at c.args.self.now in
    let theirs = state_of g.S.DotStore.at c.args.other.now in
    subst (λ pair. Same (state_of g.S.DotStore.at pair) (join g.S.DotStore.greater own theirs)) (sym c.replace.ensures.after) c.in_ok-both.ensures.ok
