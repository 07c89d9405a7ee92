use Rattle.trace_texts.proofs.Reading.{replicas_read}
use Rattle.trace_texts.proofs.laws.each_read_comes_to_an_outcome.Goals as goal

pub returns : goal.returns
returns c = replicas_read
