use Rattle.std.proofs.Common.{sym, ◌∙◌}
use Rattle.dot_store.specs.Stores.{at_dots, at_values}
use Rattle.dot_store.proofs.Dots.{at_keys, at_dots-at_values}
use Rattle.dot_store.proofs.dot_set.DotSetDotStore.join.Goals as goal
use Rattle.causal_context.specs.Context.{has}
use Rattle.dot_store.specs.Stores.{greater_unit}
use Rattle.dot_store.proofs.Values.{joined_along}

pub returns-clause-ok : goal.returns-clause-ok
returns-clause-ok g c = λ place d.
    let mine = at_dots-at_values c.self.inside.dots c.args.self.now c.self.view_is place d in
    let yours = at_dots-at_values c.other.inside.dots c.args.other.now c.other.view_is place d in
    at_keys c.in_ok-dots.dots place d ∙ c.in_ok-dots.ensures.ok place d
    ∙ joined_along greater_unit (at_values c.self.inside.dots place d) (at_dots c.args.self.now place d) (at_values c.other.inside.dots place d)
    (at_dots c.args.other.now place d) (has c.args.own.now d) (has c.args.theirs.now d)
    (sym mine) (sym yours)
