use Rattle.std.proofs.Common.{[], ◌∷◌, ◌++◌, ap, ◌∙◌}
use Rattle.delta_ops.proofs.reading.alone.Goals as goal

pub returns-clause-ok : goal.returns-clause-ok
returns-clause-ok g c = c.in_ok-push.ensures.items ∙ ap (λ list. list ++ c.in_ok-copy.field-0 ∷ []) c.in_ok-list.ensures.items
    ∙ ap (λ value. value ∷ []) c.in_ok-copy.ensures.ok
