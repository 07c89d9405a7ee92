use Rattle.std.proofs.Common.{◌∙◌}
use Rattle.trace_words.proofs.WordLemmas.{number_of-positive, some_name}
use Rattle.trace_words.proofs.word.name.Goals as goal

pub returns : goal.returns
returns c =
    let positive = number_of-positive c.args.word.now c.in_ok-number.field-0 c.in_ok-number.ensures in
    some_name c.new.result c.in_ok-number.field-0 positive c.new.ensures.found.1 c.new.ensures.value ∙ c.in_ok-number.ensures
