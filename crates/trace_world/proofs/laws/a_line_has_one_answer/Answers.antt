use Rattle.trace_world.proofs.Unique.{answers_one}
use Rattle.trace_world.proofs.laws.a_line_has_one_answer.Goals as goal

pub returns : goal.returns
returns c = answers_one
