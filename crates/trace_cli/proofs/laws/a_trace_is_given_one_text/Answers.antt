use Rattle.trace_cli.proofs.Unique.{texts_one}
use Rattle.trace_cli.proofs.laws.a_trace_is_given_one_text.Goals as goal

pub returns : goal.returns
returns c = texts_one
