use Rattle.trace_texts.proofs.Going.{starts, lines_answered}
use Rattle.trace_texts.proofs.laws.each_line_is_answered.Goals as goal

pub returns : goal.returns
returns c = record { starts = starts; answered = lines_answered }
