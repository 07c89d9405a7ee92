use Rattle.trace_texts.proofs.Numbered.{known_numbered}
use Rattle.trace_texts.proofs.laws.known_dots_are_numbered.Goals as goal

pub returns : goal.returns
returns c = known_numbered
