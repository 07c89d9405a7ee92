use Rattle.std.proofs.Common.{rules, ◌≤◌, length, sym, subst, refl}
use Rattle.std.specs.List.{AllByRecursion}
use Rattle.wire_form.proofs.standing.are_children.Goals as goal

pub returns-then-have_indices : goal.returns-then-have_indices
returns-then-have_indices c =
    let some : 1 ≤ length c.args.children.now = search rules in
    let within = subst (λ n. AllByRecursion (λ child. child.0 ≤ n) c.args.children.now) c.in-Some.ensures.1 (c.if-have_indices.ensures.0 refl) in
    ((λ sorted. (c.in-Some.ensures.0, some, within, c.is_ascending.ensures.0 sorted)), (λ stands. c.is_ascending.ensures.1 stands.3))

pub returns-else-have_indices : goal.returns-else-have_indices
returns-else-have_indices c = (
  (λ never. absurd (cc (never, c.if-have_indices.false))),
  (λ stands. c.have_indices.ensures.1 (subst (λ n. AllByRecursion (λ child. child.0 ≤ n) c.args.children.now) (sym c.in-Some.ensures.1) stands.2)),
)
