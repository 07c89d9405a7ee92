use Rattle.std.proofs.Common.{subst, sym, ap, ◌∙◌, max}
use Rattle.causal_context.specs.Context.{has, known_up_to, in_cloud, IsGreatest}
use Rattle.causal_context.proofs.Known.{greatest-known}
use Rattle.causal_context.proofs.context.Context.greatest.Goals as goal

pub returns : goal.returns
unfolding has
returns g c =
    let vector = c.self.inside.vector in
    let found = greatest-known (known_up_to vector) (in_cloud c.self.inside.cloud)
    c.args.name c.greatest_in-above.result c.self.invariant.apart c.greatest_in-above.ensures in
    subst (λ x. IsGreatest c.args.name (has x) c.max.result) c.self.view_is
    (subst (IsGreatest c.args.name (has (record { vector = vector; cloud = c.self.inside.cloud })))
    (sym (c.max.ensures ∙ ap (λ n. max c.greatest_in-above.result n) c.known_up_to.ensures)) found)
