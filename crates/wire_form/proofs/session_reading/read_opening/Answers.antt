use Rattle.std.specs.Prelude.{ℕ, List, Option, ◌∷◌}
use Rattle.std.proofs.lemmas.Result.{err_from_is_err_and}
use Rattle.causal_context.specs.Context.{ContextValue}
use Rattle.wire_form.specs.Spelling.{HasNoSpelling, IsWhole}
use Rattle.wire_form.specs.Session.{session, IsSession}
use Rattle.wire_form.specs.Message.{SpellsNone, opening, IsOpening}
use Rattle.wire_form.proofs.Reading.{refuses_weaker}
use Rattle.wire_form.proofs.Messages.{none_in_session, none_in_said, no_opening}
use Rattle.wire_form.proofs.session_reading.read_opening.Goals as goal

pub returns-in_err-shown-in-Ok : goal.returns-in_err-shown-in-Ok
returns-in_err-shown-in-Ok g c =
    let p = err_from_is_err_and c.from_residual.result c.from_residual.ensures.1 in
    let rest = c.in-Ok.front.1.now in
    rw (p.1, p.2)
    (refuses_weaker ((v : ContextValue × Option (List ℕ)) → IsWhole opening IsOpening rest v → ⊥) (SpellsNone (3 ∷ 4 ∷ c.args.bytes.now))
    c.in_err-shown-in-Ok.field-0.0
    (λ none. no_opening c.args.bytes.now (none_in_said 4 opening IsOpening c.args.bytes.now c.in-Ok.front.0 rest c.in-Ok.ensures none))
    c.in_err-shown-in-Ok.ensures)

pub returns-in-Err : goal.returns-in-Err
returns-in-Err g c =
    refuses_weaker (HasNoSpelling session IsSession c.args.bytes.now) (SpellsNone (3 ∷ 4 ∷ c.args.bytes.now)) c.in-Err.refusal
    (λ none. no_opening c.args.bytes.now (none_in_session 4 opening IsOpening c.args.bytes.now none)) c.in-Err.ensures
