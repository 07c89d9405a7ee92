use Rattle.std.proofs.Common.{[], eqb-true, sym, ◌∙◌}
use Rattle.std.proofs.lemmas.Result.{IfOk-weaker}
use Rattle.causal_context.specs.Context.{is_known}
use Rattle.dots.specs.Dot.{same_dot}
use Rattle.delta_ops.proofs.Groups.{list_of_none}
use Rattle.delta_ops.proofs.Merged.{adds_no_vector, adds_same}
use Rattle.delta_ops.proofs.merging.add_new_first.Goals as goal

pub returns-then-is_empty-clause-ok : goal.returns-then-is_empty-clause-ok
returns-then-is_empty-clause-ok g c = λ _.
    adds_no_vector c.args.gone.now c.args.known.now c.args.vector.now
    (list_of_none c.args.vector.now (eqb-true _ 0 (sym c.is_empty.ensures ∙ c.if-is_empty.true)))

pub returns-in-Some-clause-ok : goal.returns-in-Some-clause-ok
returns-in-Some-clause-ok g c =
    IfOk-weaker c.add_new_dot.result _ _ (λ is adds t.
    adds_same c.args.gone.now c.args.known.now c.add_new_dot.new.known (same_dot c.in-Some.dot) (is_known c.args.vector.now []) c.in-Some.ensures (adds t))
    c.add_new_dot.ensures.ok
