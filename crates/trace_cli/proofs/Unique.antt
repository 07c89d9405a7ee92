-- A trace is given one text.
use Rattle.std.proofs.Common.{◌≡◌, ℕ, ◌+◌, List, [], ◌∷◌, sym, ap, subst, ◌∙◌}
use Rattle.trace_words.specs.Answer.{LineAnswer, Silent, Told, Faulted}
use Rattle.trace_world.specs.Line.{Past, start}
use Rattle.trace_world.proofs.Unique.{answers_one}
use Rattle.trace_cli.specs.Laws.{TracesAreGivenOne}
use Rattle.trace_cli.specs.Lines.{lines_of}
use Rattle.trace_cli.specs.Output.{Given, prepend, Gives, GivesFirst, answer_text}

-- one answer, in front of one that is later given
first_one : (answer : LineAnswer) (number : ℕ) (Later : Given → Type 0) → ((l l' : Given) → Later l → Later l' → l ≡ l')
    → (given given' : Given) → GivesFirst answer number Later given → GivesFirst answer number Later given' → given ≡ given'
first_one Silent number Later one given given' first second = one given given' first second
first_one (Told text) number Later one given given' (later, is, e) (later', is', e') = e
    ∙ ap (prepend (answer_text (Told text) number)) (one later later' is is') ∙ sym e'
first_one (Faulted refusal) number Later one given given' e e' = e ∙ sym e'

gives_one : (past : Past) (number : ℕ) (lines : List (List ℕ)) (given given' : Given) → Gives past number lines given → Gives past number lines given'
    → given ≡ given'
gives_one past number [] given given' e e' = e ∙ sym e'
gives_one past number (line ∷ lines) given given' (answer, next, answers, first) (answer', next', answers', first') =
    let same = answers_one past line answer answer' next next' answers answers' in
    let Later = λ (p : Past) (later : Given). Gives p (number + 1) lines later in
    first_one answer number (Later next) (gives_one next (number + 1) lines) given given' first
    (subst (λ p. GivesFirst answer number (Later p) given') (sym same.1) (subst (λ a. GivesFirst a number (Later next') given') (sym same.0) first'))

pub texts_one : TracesAreGivenOne
texts_one input given given' first second = gives_one start 1 (lines_of input) given given' first second
