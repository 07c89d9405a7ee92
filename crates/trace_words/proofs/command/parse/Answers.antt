use Rattle.std.proofs.Common.{arith, length, ◌≡◌, ◌∙◌, ap, ◌<◌, ◌≤◌, map, subst, IfOk}
use Rattle.std.proofs.lemmas.Bool.Decides.{nat_tests}
use Rattle.std.specs.Option.{option_map}
use Rattle.trace_words.specs.Command.{command_of_words}
use Rattle.trace_words.specs.Parsed.{command_value}
use Rattle.trace_words.proofs.CommandLemmas.{too_few_words, too_many_words, of_one, of_two, of_three, of_four}
use Rattle.trace_words.proofs.command.parse.Goals as goal
use Rattle.trace_words.proofs.command.parse.Goals.{in_default-via-then-as_slice-lt2}
use Rattle.trace_words.proofs.command.parse.Goals.{in_default-via-else-as_slice-lt2+else-this-lt3+else-this-lt4+else-this-lt5+else-this-lt6}

pub returns-clause-ok : goal.returns-clause-ok
returns-clause-ok g c =
    elim c.in_default.branch [
      | in_default-via-then-as_slice-lt2 w ↦
          (let h : length c.in_ok-words.words.items < 2 = grind (arith, nat_tests, c.as_slice.ensures.len) in
          too_few_words c.in_ok-words.words.items (λ word. word.now) h ∙ ap command_of_words c.in_ok-words.ensures)
      | in_default-via-else-as_slice-lt2+else-this-lt3+else-this-lt4+else-this-lt5+else-this-lt6 w ↦
          (let h : 6 ≤ length c.in_ok-words.words.items = grind (arith, nat_tests, c.as_slice.ensures.len) in
          too_many_words c.in_ok-words.words.items (λ word. word.now) h ∙ ap command_of_words c.in_ok-words.ensures)
    ]

pub returns-in-len2-clause-ok : goal.returns-in-len2-clause-ok
returns-in-len2-clause-ok g c =
    c.with_one_word.ensures ∙ of_one c.as_slice.result.now (λ word. word.now) _ c.in-len2.len_at_least c.in-len2.len_below
    ∙ ap (λ words. command_of_words (map (λ word. word.now) words)) c.as_slice.ensures.value ∙ ap command_of_words c.in_ok-words.ensures

pub returns-in-len3-clause-ok : goal.returns-in-len3-clause-ok
returns-in-len3-clause-ok g c =
    subst (λ command. IfOk c.with_two_words.result (λ found. option_map command_value found ≡ command))
    (of_two c.as_slice.result.now (λ word. word.now) _ c.in-len3.len_at_least c.in-len3.len_below
    ∙ ap (λ words. command_of_words (map (λ word. word.now) words)) c.as_slice.ensures.value ∙ ap command_of_words c.in_ok-words.ensures)
    c.with_two_words.ensures.ok

pub returns-in-len3-clause-err : goal.returns-in-len3-clause-err
returns-in-len3-clause-err g c = c.with_two_words.ensures.err

pub returns-in-len4-clause-ok : goal.returns-in-len4-clause-ok
returns-in-len4-clause-ok g c =
    subst (λ command. IfOk c.with_three_words.result (λ found. option_map command_value found ≡ command))
    (of_three c.as_slice.result.now (λ word. word.now) _ c.in-len4.len_at_least c.in-len4.len_below
    ∙ ap (λ words. command_of_words (map (λ word. word.now) words)) c.as_slice.ensures.value ∙ ap command_of_words c.in_ok-words.ensures)
    c.with_three_words.ensures.ok

pub returns-in-len4-clause-err : goal.returns-in-len4-clause-err
returns-in-len4-clause-err g c = c.with_three_words.ensures.err

pub returns-in-len5-clause-ok : goal.returns-in-len5-clause-ok
returns-in-len5-clause-ok g c =
    subst (λ command. IfOk c.with_four_words.result (λ found. option_map command_value found ≡ command))
    (of_four c.as_slice.result.now (λ word. word.now) _ c.in-len5.len_at_least c.in-len5.len_below
    ∙ ap (λ words. command_of_words (map (λ word. word.now) words)) c.as_slice.ensures.value ∙ ap command_of_words c.in_ok-words.ensures)
    c.with_four_words.ensures.ok

pub returns-in-len5-clause-err : goal.returns-in-len5-clause-err
returns-in-len5-clause-err g c = c.with_four_words.ensures.err
