use Rattle.std.proofs.Common.{sym, ap, ◌∙◌}
use Rattle.std.specs.Prelude.{is_some}
use Rattle.std.proofs.lemmas.Result.{IfOk-weaker}
use Rattle.dot_store.proofs.Dots.{at_dots-at_values}
use Rattle.dot_store.proofs.dot_set.DotSetDotStore.dots.Goals as goal

pub returns-clause-only : goal.returns-clause-only
returns-clause-only g c =
    let alike = at_dots-at_values c.self.inside.dots c.args.self.now c.self.view_is in
    IfOk-weaker c.dots.result _ _ (λ dots only d h. let held = only d h in (held.0, ap is_some (alike held.0 d) ∙ held.1)) c.dots.ensures.only

pub returns-clause-all : goal.returns-clause-all
returns-clause-all g c =
    let alike = at_dots-at_values c.self.inside.dots c.args.self.now c.self.view_is in
    IfOk-weaker c.dots.result _ _ (λ dots all place d h. all place d (sym (ap is_some (alike place d)) ∙ h)) c.dots.ensures.all
