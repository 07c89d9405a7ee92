use Rattle.std.proofs.Common.{sym, ◌∙◌}
use Rattle.std.specs.Ordering.{ord_max}
use Rattle.causal_context.specs.Context.{has}
use Rattle.causal_context.specs.Dots.{dot_cmp}
use Rattle.ordered_list.specs.Places.{value_at}
use Rattle.dot_store.specs.Stores.{at_values}
use Rattle.dot_store.proofs.Values.{at_values-found, joined_along}
use Rattle.dot_store.proofs.dot_fun.DotFunDotStore.join.Goals as goal

pub returns-clause-ok : goal.returns-clause-ok
unfolding at_values
returns-clause-ok g c =
    let mine = c.self.inside.values in
    let yours = c.other.inside.values in
    rw (← c.self.view_is, ← c.other.view_is)
    (λ place d.
    at_values-found c.in_ok-values.values place d ∙ c.in_ok-values.ensures.ok d
    ∙ joined_along (ord_max g.V.Ord.cmp) (value_at dot_cmp mine d) (at_values mine place d) (value_at dot_cmp yours d) (at_values yours place d)
    (has c.args.own.now d) (has c.args.theirs.now d)
    (sym (at_values-found mine place d)) (sym (at_values-found yours place d)))
