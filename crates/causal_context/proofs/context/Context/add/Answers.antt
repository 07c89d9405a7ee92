use Rattle.std.proofs.Common.{◌||◌, ap, sym, ◌∙◌}
use Rattle.std.proofs.lemmas.Result.{on_ok_weaker}
use Rattle.dots.specs.Dot.{same_dot}
use Rattle.causal_context.specs.Context.{has}
use Rattle.causal_context.proofs.context.Context.add.Goals as goal

pub add_to-requires-clause-absent : goal.add_to-requires-clause-absent
unfolding has
add_to-requires-clause-absent g c = ap (λ x. has x c.args.dot) c.self.view_is ∙ sym c.contains.ensures ∙ c.if-contains.false

pub returns-clause-ok : goal.returns-clause-ok
unfolding has
returns-clause-ok g c =
    on_ok_weaker c.add_to.result (λ h d. h d ∙ ap (λ b. same_dot c.args.dot d || b) (ap (λ x. has x d) c.self.view_is)) c.add_to.ensures.ok
