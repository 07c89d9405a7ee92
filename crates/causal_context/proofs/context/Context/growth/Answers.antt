use Rattle.std.proofs.Common.{[], sym, subst}
use Rattle.causal_context.specs.Context.{has, is_known, known_up_to, in_cloud}
use Rattle.causal_context.specs.Growth.{IsGrowth}
use Rattle.causal_context.proofs.Growths.{growth-both, split_parts}
use Rattle.causal_context.proofs.context.Context.growth.Goals as goal

pub returns : goal.returns
unfolding has
returns g c =
    let other = c.args.other.now in
    subst (IsGrowth c.args.self.now other) (sym c.and.ensures)
    (growth-both (has c.args.self.now) (has other) (is_known other.vector []) (in_cloud other.cloud) (has other)
    c.growth_by_vector-below.result c.growth_by_cloud-apart.result
    (λ d h. split_parts d.number (known_up_to other.vector d.name) (in_cloud other.cloud d) h) c.growth_by_vector-below.ensures c.growth_by_cloud-apart.ensures)
