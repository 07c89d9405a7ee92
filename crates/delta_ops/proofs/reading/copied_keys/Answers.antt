use Rattle.std.proofs.Common.{◌∷◌, [], ◌++◌, ap, sym, ◌∙◌, take}
use Rattle.std.proofs.lemmas.List.{map-append, take_all, take_more}
use Rattle.std.specs.Map.{keys_of}
use Rattle.delta_ops.proofs.reading.copied_keys.Goals as goal

-- src/reading.rt
pub loop-key-preserved : goal.loop-key-preserved
loop-key-preserved g c =
    let entries = c.args.entries.now in
    let i = c.loop-key.key-index in
    let entry = c.loop-key-item.result in
    c.in_ok-push.ensures.items
    ∙ ap (λ keys. keys ++ c.in_ok-copy.field-0 ∷ []) c.loop-key.invariant
    ∙ ap (λ key. keys_of (take i entries) ++ key ∷ []) c.in_ok-copy.ensures.ok
    ∙ sym (map-append (λ e. e.0) (take i entries) (entry ∷ []))
    ∙ sym (ap keys_of (take_more entries i entry c.loop-key-test.true ∙ ap (λ item. take i entries ++ item ∷ []) (sym c.loop-key-item.is)))

pub returns-clause-ok : goal.returns-clause-ok
returns-clause-ok g c = c.loop-key.invariant ∙ ap keys_of (take_all c.loop-key.key-index c.args.entries.now c.loop-key-test.false)
