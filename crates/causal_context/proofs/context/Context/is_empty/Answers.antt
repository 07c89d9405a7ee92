use Rattle.std.proofs.Common.{length, sym, ap, ◌∙◌, eqb-true, eq-eqb}
use Rattle.causal_context.specs.Context.{has}
use Rattle.causal_context.proofs.Forms.{none_from_empty, vector_empty_from_none, cloud_empty_from_none}
use Rattle.causal_context.proofs.context.Context.is_empty.Goals as goal

pub returns-then-is_empty : goal.returns-then-is_empty
unfolding has
returns-then-is_empty g c =
    let vector = c.self.inside.vector in
    let cloud = c.self.inside.cloud in
    let entries = ap length c.entries.ensures.all in
    let items = ap length c.items.ensures.all in (
      λ empty d. ap (λ x. has x d) (sym c.self.view_is)
          ∙ none_from_empty vector cloud (sym entries ∙ eqb-true (length c.entries.result.now) 0 (sym c.is_empty.ensures ∙ c.if-is_empty.true))
          (sym items ∙ eqb-true (length c.items.result.now) 0 (sym c.is_empty-then-is_empty.ensures ∙ empty)) d,
      λ none. c.is_empty-then-is_empty.ensures
          ∙ eq-eqb (length c.items.result.now) 0 (items ∙ cloud_empty_from_none vector cloud c.self.invariant.apart
          (λ d. ap (λ x. has x d) c.self.view_is ∙ none d)),
    )

pub returns-else-is_empty : goal.returns-else-is_empty
unfolding has
returns-else-is_empty g c =
    let vector = c.self.inside.vector in
    let cloud = c.self.inside.cloud in
    let entries = ap length c.entries.ensures.all in (
      λ empty. absurd (cc (empty, c.if-is_empty.false)),
      λ none. c.is_empty.ensures
          ∙ eq-eqb (length c.entries.result.now) 0 (entries ∙ vector_empty_from_none vector cloud c.self.invariant.no_zero
          (λ d. ap (λ x. has x d) c.self.view_is ∙ none d)),
    )
