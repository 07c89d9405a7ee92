use Rattle.std.proofs.Common.{ap, ◌∙◌}
use Rattle.std.specs.Prelude.{is_some}
use Rattle.dot_store.proofs.Dots.{at_dots-at_values}
use Rattle.dot_store.proofs.dot_set.DotSetDotStore.contains.Goals as goal

pub returns-clause-found : goal.returns-clause-found
returns-clause-found g c = λ t.
    let held = c.contains.ensures.found t in
    (held.0, ap is_some (at_dots-at_values c.self.inside.dots c.args.self.now c.self.view_is held.0 c.args.dot) ∙ held.1)

pub returns-clause-absent : goal.returns-clause-absent
returns-clause-absent g c = λ f place. at_dots-at_values c.self.inside.dots c.args.self.now c.self.view_is place c.args.dot ∙ c.contains.ensures.absent f place
