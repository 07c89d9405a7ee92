use Rattle.std.proofs.Common.{sym, ◌∙◌}
use Rattle.dot_store.specs.Stores.{at_values}
use Rattle.dot_store.proofs.Values.{at_values-found}
use Rattle.dot_store.proofs.dot_fun.DotFunDotStore.same.Goals as goal

pub returns : goal.returns
unfolding at_values
returns g c =
    let mine = c.self.inside.values in
    let yours = c.other.inside.values in
    rw (← c.self.view_is, ← c.other.view_is) (
      λ t place d. at_values-found mine place d ∙ c.are_same.ensures.0 t d ∙ sym (at_values-found yours place d),
      λ h. c.are_same.ensures.1 (λ d. sym (at_values-found mine tt d) ∙ h tt d ∙ at_values-found yours tt d),
    )
