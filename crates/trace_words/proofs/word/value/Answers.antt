use Rattle.trace_words.proofs.WordLemmas.{no_err, at_ok, numeral_utf8, number_of-parse}
use Rattle.trace_words.proofs.word.value.Goals as goal

pub returns-in_err-ok : goal.returns-in_err-ok
returns-in_err-ok c = absurd (no_err _ _ c.from_utf8.result c.in_err-ok.ensures.value c.from_utf8.ensures.cases (numeral_utf8 c.args.word.now c.requires))

pub returns : goal.returns
returns c =
    let same = at_ok _ _ c.from_utf8.result c.in_ok-ok.field-0 c.in_ok-ok.ensures.value c.from_utf8.ensures.cases in
    number_of-parse c.args.word.now c.in_ok-ok.field-0.now c.parse.result c.ok-2.result c.requires same.0 c.parse.ensures.value.0 c.ok-2.ensures.value
