use Rattle.std.proofs.Common.{sym, ◌∙◌}
use Rattle.dot_store.proofs.Dots.{at_keys, at_dots-at_values}
use Rattle.dot_store.proofs.dot_set.DotSetDotStore.copy.Goals as goal

pub returns-clause-ok : goal.returns-clause-ok
returns-clause-ok g c = λ place d.
    at_keys c.in_ok-dots.dots place d ∙ c.in_ok-dots.ensures.ok place d ∙ sym (at_dots-at_values c.self.inside.dots c.args.self.now c.self.view_is place d)
