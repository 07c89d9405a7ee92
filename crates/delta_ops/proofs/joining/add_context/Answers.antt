use Rattle.std.proofs.Common.{◌≡◌, [], ◌||◌, eqb-true, sym, ap, ◌∙◌}
use Rattle.std.proofs.lemmas.Result.{on_ok_weaker}
use Rattle.causal_context.specs.Context.{has, in_cloud}
use Rattle.delta_ops.proofs.Groups.{list_of_none}
use Rattle.delta_ops.proofs.Stacking.{known_in_cloud}
use Rattle.delta_ops.proofs.joining.add_context.Goals as goal

pub returns-then-is_empty-clause-ok : goal.returns-then-is_empty-clause-ok
returns-then-is_empty-clause-ok g c =
    let more = c.args.more.now in
    let empty = list_of_none c.vector.result.now (eqb-true _ 0 (sym c.is_empty.ensures ∙ c.if-is_empty.true)) in
    let none : more.vector ≡ [] = sym c.vector.ensures.rest ∙ empty in
    on_ok_weaker c.add_dots.result (λ added d. added d ∙ ap (λ dots. has c.args.known.now d || in_cloud dots d) c.cloud-dots.ensures.rest
    ∙ ap (λ b. has c.args.known.now d || b) (sym (known_in_cloud more c.cloud-dots.ensures.canonical none d))) c.add_dots.ensures.ok
