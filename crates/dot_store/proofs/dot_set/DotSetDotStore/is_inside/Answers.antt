use Rattle.std.proofs.Common.{sym, ap, ◌∙◌}
use Rattle.std.specs.Prelude.{is_some}
use Rattle.dot_store.proofs.Dots.{at_dots-at_values}
use Rattle.dot_store.proofs.dot_set.DotSetDotStore.is_inside.Goals as goal

pub returns : goal.returns
returns g c =
    let alike = at_dots-at_values c.self.inside.dots c.args.self.now c.self.view_is in (
      λ t place d h. c.is_inside.ensures.0 t place d (sym (ap is_some (alike place d)) ∙ h),
      λ inside. c.is_inside.ensures.1 (λ place d h. inside place d (ap is_some (alike place d) ∙ h)),
    )
