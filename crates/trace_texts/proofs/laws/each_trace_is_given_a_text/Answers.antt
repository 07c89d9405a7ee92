use Rattle.trace_texts.proofs.Texts.{traces_given}
use Rattle.trace_texts.proofs.laws.each_trace_is_given_a_text.Goals as goal

pub returns : goal.returns
returns c = traces_given
