use Rattle.std.proofs.Common.{◌∙◌, ◌++◌, ap}
use Rattle.trace_words.specs.Text.{listed_text}
use Rattle.trace_words.proofs.answer.get_answer.Goals as goal

-- the sign, and then the values
pub returns-clause-ok : goal.returns-clause-ok
returns-clause-ok g c = c.in_ok-push_values.ensures.ok ∙ ap (λ begin. begin ++ listed_text c.args.found.now) c.in_ok-text.ensures.items
