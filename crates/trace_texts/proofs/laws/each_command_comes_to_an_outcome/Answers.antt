use Rattle.trace_texts.proofs.Coming.{commands_come}
use Rattle.trace_texts.proofs.laws.each_command_comes_to_an_outcome.Goals as goal

pub returns : goal.returns
returns c = commands_come
