use Rattle.std.proofs.Common.{cond, Some, sym, ap, ◌∙◌}
use Rattle.dots.specs.Dot.{same_dot}
use Rattle.std.proofs.lemmas.Result.{on_ok_weaker}
use Rattle.dot_store.specs.Stores.{at_dots, at_values}
use Rattle.dot_store.proofs.Dots.{at_keys, at_dots-at_values}
use Rattle.dot_store.proofs.dot_set.DotSet.insert.Goals as goal

pub returns-clause-ok : goal.returns-clause-ok
unfolding at_dots at_values
returns-clause-ok g c =
    on_ok_weaker c.insert.result
    (λ h place d. at_keys c.insert.new.self place d ∙ h place d
    ∙ ap (λ o. cond (same_dot c.args.dot d) (Some (tt {0})) o) (sym (at_dots-at_values c.self.inside.dots c.args.self.now c.self.view_is place d)))
    c.insert.ensures.ok
