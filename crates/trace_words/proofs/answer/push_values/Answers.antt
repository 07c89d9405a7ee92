use Rattle.std.proofs.Common.{◌++◌, ◌∷◌, ◌∙◌, ap}
use Rattle.std.proofs.Math.Seq.{append_snoc}
use Rattle.trace_words.specs.Word.{shown_as}
use Rattle.trace_words.proofs.Listing.{one_more}
use Rattle.trace_words.proofs.answer.push_values.Goals as goal

-- src/answer.rt
pub loop-value-preserved : goal.loop-value-preserved
loop-value-preserved g c =
    one_more (λ value. 32 ∷ shown_as value) _ _ _ c.args.found.now c.loop-value.value-index _ c.value-item.result c.loop-value-test.true c.value-item.is
    c.loop-value.invariant
    (c.in_ok-push_text.ensures.ok ∙ ap (λ items. items ++ shown_as c.bytes.result.now) c.in_ok-push.ensures.items
    ∙ append_snoc c.loop-value.out.items 32 (shown_as c.bytes.result.now)
    ∙ ap (λ bytes. c.loop-value.out.items ++ 32 ∷ shown_as bytes) c.bytes.ensures.value)
