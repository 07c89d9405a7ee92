use Rattle.std.proofs.Common.{cond, Some, ap, ◌∙◌}
use Rattle.dots.specs.Dot.{same_dot}
use Rattle.dot_store.specs.Stores.{at_values}
use Rattle.std.proofs.lemmas.Result.{on_ok_weaker}
use Rattle.dot_store.proofs.Values.{at_values-insert}
use Rattle.dot_store.proofs.dot_fun.DotFun.insert.Goals as goal

pub returns-clause-ok : goal.returns-clause-ok
unfolding at_values
returns-clause-ok g c =
    on_ok_weaker c.insert.result
    (λ h place d. at_values-insert c.self.inside.values c.insert.new.self c.args.dot d c.args.value place (h d)
    ∙ ap (λ es. cond (same_dot c.args.dot d) (Some c.args.value) (at_values es place d)) c.self.view_is)
    c.insert.ensures.updates
