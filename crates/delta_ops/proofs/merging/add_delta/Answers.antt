use Rattle.std.proofs.Common.{subst}
use Rattle.std.proofs.lemmas.Result.{IfOk-weaker}
use Rattle.causal_context.specs.Context.{ContextValue, has}
use Rattle.delta_ops.specs.Merging.{AddsNew}
use Rattle.delta_ops.proofs.Merged.{merged_next}
use Rattle.delta_ops.proofs.merging.add_delta.Goals as goal

pub returns-clause-ok : goal.returns-clause-ok
returns-clause-ok g c =
    let added = subst (λ (more : ContextValue). AddsNew c.args.gone.now c.args.known.now c.add_new.new.known (has more)) c.context.ensures.value
    (c.in_ok-add_new.ensures.ok c.if-not-branch.false) in
    IfOk-weaker c.add_left.result _ _ (λ is put t group merged.
    merged_next c.args.gone.now group c.args.delta.now c.args.stores.now.entries c.add_left.new.stores.entries c.args.known.now c.add_new.new.known
    c.context.ensures.inside added (put t) merged) c.add_left.ensures.ok
