use Rattle.std.proofs.Common.{sym, ap, ◌∙◌, arith}
use Rattle.causal_context.specs.Context.{has, known_up_to, in_cloud}
use Rattle.causal_context.proofs.Known.{covers_from_includes, includes_from_parts, known_in_cloud}
use Rattle.causal_context.proofs.context.Context.includes.Goals as goal

pub returns-then-covers : goal.returns-then-covers
unfolding has
returns-then-covers g c =
    let mine = known_up_to c.self.inside.vector in
    let yours = known_up_to c.other.inside.vector in
    let here = in_cloud c.self.inside.cloud in
    let there = in_cloud c.other.inside.cloud in (
      λ all d h. ap (λ x. has x d) (sym c.self.view_is)
          ∙ includes_from_parts mine yours here there (c.covers.ensures.0 c.if-covers.true)
          (λ e k. ap (λ x. has x e) c.self.view_is ∙ c.contains_all.ensures.0 all e k) d (ap (λ x. has x d) c.other.view_is ∙ h),
      λ inside. c.contains_all.ensures.1
          (λ d h. let l = c.other.invariant.apart d h in inside d (ap (λ x. has x d) (sym c.other.view_is) ∙ known_in_cloud yours there d (omega arith) h)),
    )

pub returns-else-covers : goal.returns-else-covers
unfolding has
returns-else-covers g c =
    let mine = known_up_to c.self.inside.vector in
    let yours = known_up_to c.other.inside.vector in
    let here = in_cloud c.self.inside.cloud in
    let there = in_cloud c.other.inside.cloud in (
      λ all. absurd (cc (all, c.if-covers.false)),
      λ inside. c.covers.ensures.1 (covers_from_includes mine yours here there c.self.invariant.apart
          (λ d h. ap (λ x. has x d) c.self.view_is ∙ inside d (ap (λ x. has x d) (sym c.other.view_is) ∙ h))),
    )
