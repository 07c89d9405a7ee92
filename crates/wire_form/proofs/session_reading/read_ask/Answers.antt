use Rattle.std.specs.Prelude.{ℕ, List, ◌∷◌}
use Rattle.std.proofs.lemmas.Result.{err_from_is_err_and}
use Rattle.wire_form.specs.Spelling.{HasNoSpelling, IsWhole}
use Rattle.wire_form.specs.Session.{session, IsSession}
use Rattle.wire_form.specs.Prefix.{prefix, IsPrefix}
use Rattle.wire_form.specs.Message.{SpellsNone}
use Rattle.wire_form.proofs.Reading.{refuses_weaker}
use Rattle.wire_form.proofs.Messages.{none_in_session, none_in_said, no_ask}
use Rattle.wire_form.proofs.session_reading.read_ask.Goals as goal

pub returns-in_err-read_whole_prefix-in-Ok : goal.returns-in_err-read_whole_prefix-in-Ok
returns-in_err-read_whole_prefix-in-Ok g c =
    let p = err_from_is_err_and c.from_residual.result c.from_residual.ensures.1 in
    let rest = c.in-Ok.front.1.now in
    rw (p.1, p.2)
    (refuses_weaker ((v : List ℕ) → IsWhole prefix IsPrefix rest v → ⊥) (SpellsNone (3 ∷ 5 ∷ c.args.bytes.now)) c.in_err-read_whole_prefix-in-Ok.field-0.0
    (λ none. no_ask c.args.bytes.now (none_in_said 5 prefix IsPrefix c.args.bytes.now c.in-Ok.front.0 rest c.in-Ok.ensures none))
    c.in_err-read_whole_prefix-in-Ok.ensures)

pub returns-in-Err : goal.returns-in-Err
returns-in-Err g c =
    refuses_weaker (HasNoSpelling session IsSession c.args.bytes.now) (SpellsNone (3 ∷ 5 ∷ c.args.bytes.now)) c.in-Err.refusal
    (λ none. no_ask c.args.bytes.now (none_in_session 5 prefix IsPrefix c.args.bytes.now none)) c.in-Err.ensures
