use Rattle.std.proofs.Common.{◌∷◌, [], ◌++◌, ap, ◌∙◌}
use Rattle.wire_form.proofs.store.with_fields.Goals as goal

-- src/store.rt
pub loop-key-init : goal.loop-key-init
loop-key-init g c = c.in_ok-entries.ensures.items

pub loop-key-preserved : goal.loop-key-preserved
loop-key-preserved g c =
    c.in_ok-push.ensures.items ∙ ap (λ fields. c.loop-key.entries.items ++ (c.in-Some.key, fields) ∷ []) c.into_fields.ensures
    ∙ ap (λ entries. entries ++ (c.in-Some.key, c.in-Some.plain) ∷ []) c.loop-key.invariant
