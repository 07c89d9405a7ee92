use Rattle.std.proofs.Common.{sym, ◌∙◌}
use Rattle.dot_store.proofs.Dots.{at_dots-at_values}
use Rattle.dot_store.proofs.dot_set.DotSetDotStore.same.Goals as goal

pub returns : goal.returns
returns g c =
    let mine = at_dots-at_values c.self.inside.dots c.args.self.now c.self.view_is in
    let yours = at_dots-at_values c.other.inside.dots c.args.other.now c.other.view_is in (
      λ t place d. mine place d ∙ c.same.ensures.0 t place d ∙ sym (yours place d),
      λ h. c.same.ensures.1 (λ place d. sym (mine place d) ∙ h place d ∙ yours place d),
    )
