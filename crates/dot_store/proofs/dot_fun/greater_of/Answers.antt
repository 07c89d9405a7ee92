use Rattle.std.proofs.Common.{cond, ap, ◌∙◌}
use Rattle.std.specs.Ordering.{is_lt}
use Rattle.dot_store.proofs.dot_fun.greater_of.Goals as goal

pub returns-then-is_lt : goal.returns-then-is_lt
returns-then-is_lt g c = ap (λ answer. cond answer c.args.x.now c.args.y.now) (c.if-is_lt.ensures ∙ ap is_lt c.cmp.ensures)

pub returns-else-is_lt : goal.returns-else-is_lt
returns-else-is_lt g c = ap (λ answer. cond answer c.args.x.now c.args.y.now) (c.if-is_lt.ensures ∙ ap is_lt c.cmp.ensures)
