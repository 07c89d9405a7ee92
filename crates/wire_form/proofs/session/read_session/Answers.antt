use Rattle.std.proofs.lemmas.Result.{err_from_is_err_and}
use Rattle.wire_form.specs.Spelling.{number, IsNumber, HasNoSpelling}
use Rattle.wire_form.specs.Session.{session, IsSession}
use Rattle.wire_form.proofs.Reading.{refuses_weaker}
use Rattle.wire_form.proofs.Sessions.{no_answerer, no_session_number, no_session}
use Rattle.wire_form.proofs.session.read_session.Goals as goal

pub returns-in_err-answerer : goal.returns-in_err-answerer
returns-in_err-answerer g c =
    let p = err_from_is_err_and c.from_residual-in_err-answerer.result c.from_residual-in_err-answerer.ensures.1 in
    rw (p.1, p.2)
    (refuses_weaker (HasNoSpelling number IsNumber c.in_ok-asker.rest.now) (HasNoSpelling session IsSession c.args.bytes.now) c.in_err-answerer.field-0.0
    (no_answerer c.args.bytes.now c.in_ok-asker.asker c.in_ok-asker.rest.now c.in_ok-asker.ensures) c.in_err-answerer.ensures)

pub returns-in_err-number : goal.returns-in_err-number
returns-in_err-number g c =
    let p = err_from_is_err_and c.from_residual-in_err-number.result c.from_residual-in_err-number.ensures.1 in
    rw (p.1, p.2)
    (refuses_weaker (HasNoSpelling number IsNumber c.in_ok-answerer.rest.now) (HasNoSpelling session IsSession c.args.bytes.now) c.in_err-number.field-0.0
    (no_session_number c.args.bytes.now c.in_ok-asker.asker c.in_ok-asker.rest.now c.in_ok-answerer.answerer c.in_ok-answerer.rest.now c.in_ok-asker.ensures
    c.in_ok-answerer.ensures) c.in_err-number.ensures)

pub returns-in-None : goal.returns-in-None
returns-in-None g c =
    no_session c.args.bytes.now c.in_ok-asker.asker c.in_ok-asker.rest.now c.in_ok-answerer.answerer c.in_ok-answerer.rest.now c.in_ok-number.number
    c.in_ok-number.rest.now c.in_ok-asker.ensures c.in_ok-answerer.ensures c.in_ok-number.ensures c.in-None.ensures.found.1
