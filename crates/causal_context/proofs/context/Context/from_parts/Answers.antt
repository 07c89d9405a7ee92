use Rattle.std.proofs.Common.{refl, subst, sym}
use Rattle.std.specs.List.Sorted.{IsStrictlySortedBy}
use Rattle.std.specs.Map.{keys_of}
use Rattle.std.specs.Ordering.{nat_cmp}
use Rattle.causal_context.specs.Canonical.{HasNoZero, IsApart, IsBounded}
use Rattle.causal_context.specs.Dots.{dot_cmp}
use Rattle.causal_context.proofs.context.Context.from_parts.Goals as goal
use Rattle.causal_context.proofs.context.Context.from_parts.Goals.{then-not-has_no_zero-via-then-not-has_no_zero}
use Rattle.causal_context.proofs.context.Context.from_parts.Goals.{then-not-has_no_zero-via-else-not-has_no_zero+then-not-is_apart}

pub returns-clause-form : goal.returns-clause-form
returns-clause-form g c = λ i. record { vector = c.in_ok-vector.ensures.entries i; cloud = c.in_ok-cloud.ensures.items i }

pub returns-clause-canonical : goal.returns-clause-canonical
returns-clause-canonical g c =
    let is_vector = c.in_ok-vector.ensures.entries in
    let is_cloud = c.in_ok-cloud.ensures.items in (
      λ some. record {
        names_ascend = c.in_ok-vector.ensures.ascend.0 refl;
        dots_ascend = c.in_ok-cloud.ensures.ascend.0 refl;
        no_zero = subst HasNoZero is_vector (c.if-not-has_no_zero.ensures.0 refl);
        apart = subst (λ vector. IsApart vector c.args.cloud.items) is_vector
            (subst (IsApart c.in_ok-vector.vector) is_cloud (c.if-not-is_apart.ensures.apart.0 refl));
        bounded = subst IsBounded is_cloud (c.if-not-is_apart.ensures.bounded refl);
      },
      λ canonical. refl,
    )

pub returns-then-not-has_no_zero-clause-canonical : goal.returns-then-not-has_no_zero-clause-canonical
returns-then-not-has_no_zero-clause-canonical g c =
    let is_vector = sym c.in_ok-vector.ensures.entries in
    let is_cloud = sym c.in_ok-cloud.ensures.items in (
      λ some. absurd (cc some),
      λ canonical. elim c.then-not-has_no_zero.branch [
        | then-not-has_no_zero-via-then-not-has_no_zero w ↦ absurd (cc (w.if-not-has_no_zero.ensures.1 (subst HasNoZero is_vector canonical.no_zero)))
        | then-not-has_no_zero-via-else-not-has_no_zero+then-not-is_apart w ↦
            absurd (cc (w.if-not-is_apart.ensures.apart.1
            (subst (λ vector. IsApart vector c.in_ok-cloud.cloud) is_vector (subst (IsApart c.args.vector.items) is_cloud canonical.apart))))
      ],
    )

pub invariant_of-result : goal.invariant_of-result
invariant_of-result g c = record {
  names_ascend = subst (λ vector. IsStrictlySortedBy nat_cmp (keys_of vector)) (sym c.in_ok-vector.ensures.entries) (c.in_ok-vector.ensures.ascend.0 refl);
  dots_ascend = subst (IsStrictlySortedBy dot_cmp) (sym c.in_ok-cloud.ensures.items) (c.in_ok-cloud.ensures.ascend.0 refl);
  no_zero = c.if-not-has_no_zero.ensures.0 refl;
  apart = c.if-not-is_apart.ensures.apart.0 refl;
  bounded = c.if-not-is_apart.ensures.bounded refl;
}
