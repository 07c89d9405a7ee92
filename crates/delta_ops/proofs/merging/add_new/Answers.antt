use Rattle.std.proofs.Common.{[]}
use Rattle.std.proofs.lemmas.Result.{IfOk-weaker}
use Rattle.causal_context.specs.Context.{has, in_cloud, is_known}
use Rattle.delta_ops.proofs.Merged.{adds_both, known_parts}
use Rattle.delta_ops.proofs.merging.add_new.Goals as goal

pub returns-clause-ok : goal.returns-clause-ok
returns-clause-ok g c =
    let more = c.args.more.now in
    let vector = c.vector-vector.result.now in
    let cloud = c.cloud-dots.result.now in
    IfOk-weaker c.add_new_dots.result _ _ (λ is adds t.
    adds_both c.args.gone.now c.args.known.now c.add_new_first.new.known c.add_new_dots.new.known (is_known vector []) (in_cloud cloud) (has more)
    (known_parts more c.cloud-dots.ensures.canonical vector cloud c.vector-vector.ensures.rest c.cloud-dots.ensures.rest) (adds t)
    (c.in_ok-add_new_first.ensures.ok c.if-not-branch.false)) c.add_new_dots.ensures.ok
