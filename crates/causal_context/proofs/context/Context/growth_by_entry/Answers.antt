use Rattle.std.proofs.Common.{◌+◌, ◌∙◌, ap, sym, subst, arith}
use Rattle.causal_context.specs.Context.{has, known_up_to, in_cloud}
use Rattle.causal_context.specs.Growth.{IsNew, IsOnlyNew, is_up_to}
use Rattle.causal_context.proofs.Growths.{none-up_to, next_is_new, only-up_to}
use Rattle.causal_context.proofs.context.Context.growth_by_entry.Goals as goal

pub returns-then-number-mine : goal.returns-then-number-mine
unfolding has
returns-then-number-mine g c = λ d h.
    let entry = known_up_to c.self.inside.vector in
    ap (λ x. has x d) (sym c.self.view_is) ∙ none-up_to entry (in_cloud c.self.inside.cloud) c.args.name c.args.number (omega arith) d h

pub returns-then-number-mine-gt1 : goal.returns-then-number-mine-gt1
unfolding has
returns-then-number-mine-gt1 g c =
    let entry = known_up_to c.self.inside.vector in (
      record { name = c.args.name; number = entry c.args.name + 1 },
      subst (λ x. IsNew (has x) (is_up_to c.args.name c.args.number) (record { name = c.args.name; number = entry c.args.name + 1 })) c.self.view_is
          (next_is_new entry (in_cloud c.self.inside.cloud) c.args.name c.args.number c.self.invariant.apart (omega arith)),
    )

pub returns : goal.returns
unfolding has
returns g c =
    let entry = known_up_to c.self.inside.vector in
    let up_to = is_up_to c.args.name c.args.number in
    subst (λ x. IsOnlyNew (has x) up_to up_to c.dot_at.result) c.self.view_is
    (only-up_to entry (in_cloud c.self.inside.cloud) c.args.name c.args.number c.dot_at.result c.self.invariant.apart (omega arith) c.dot_at.ensures)
