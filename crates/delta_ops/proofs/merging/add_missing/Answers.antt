use Rattle.std.proofs.Common.{ap, sym, ◌∙◌}
use Rattle.std.specs.BTreeSet.{BTreeSet}
use Rattle.causal_context.proofs.Clouds.{in_cloud_at}
use Rattle.dots.specs.Dot.{DotValue}
use Rattle.op_model.specs.Operation.{has as is_among}
use Rattle.delta_ops.proofs.Merged.{missing_more}
use Rattle.delta_ops.proofs.merging.add_missing.Goals.{then-not-contains+in_ok-insert, else-not-contains}
use Rattle.delta_ops.proofs.merging.add_missing.Goals as goal

pub loop-dot-preserved : goal.loop-dot-preserved
loop-dot-preserved g c =
    let known = c.args.known.now in
    let dot = c.dot-item.result in
    elim c.if-not-contains.branch [
      | then-not-contains+in_ok-insert w ↦
          missing_more known c.args.dots.now.keys c.loop-dot.dots.keys c.if-not-contains.dots.keys c.args.store.now dot
          (in_cloud_at known c.loop-dot.dot-index dot c.loop-dot-test.true c.dot-item.is) (c.contains.ensures.absent w.if-not-contains.true)
          (ap (λ (s : BTreeSet DotValue). s.keys) w.dots-is ∙ w.in_ok-insert.ensures.keys) c.loop-dot.invariant
      | else-not-contains w ↦ λ d h. c.loop-dot.invariant d (ap (λ (s : BTreeSet DotValue). is_among s.keys d) (sym w.dots-is) ∙ h)
    ]
