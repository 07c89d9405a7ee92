use Rattle.std.proofs.Common.{sym, ap, ◌∙◌, arith}
use Rattle.sync_protocol.specs.Asking.{AskerValue}
use Rattle.wire_form.specs.Session.{SessionValue, same_session}
use Rattle.replica_core.proofs.Firsts.{first_here, none_here, none_anywhere}
use Rattle.replica_core.proofs.sessions.place_of.Goals as goal

pub returns-then-eq-clause-found : goal.returns-then-eq-clause-found
returns-then-eq-clause-found g c =
    first_here (λ (b : AskerValue g.row.H.Denot). same_session b.session c.args.session)
    c.args.sessions.now c.loop-place.place c.index-sessions-place.result c.loop-place-test.true c.index-sessions-place.is
    (ap (λ (s : SessionValue). same_session s c.args.session) (sym c.session.ensures) ∙ sym c.eq.ensures ∙ c.if-eq.true) c.loop-place.invariant

pub loop-place-preserved : goal.loop-place-preserved
loop-place-preserved g c =
    none_here (λ (b : AskerValue g.row.H.Denot). same_session b.session c.args.session)
    c.args.sessions.now c.loop-place.place c.index-sessions-place.result c.loop-place-test.true c.index-sessions-place.is
    (ap (λ (s : SessionValue). same_session s c.args.session) (sym c.session.ensures) ∙ sym c.eq.ensures ∙ c.if-eq.false) c.loop-place.invariant

pub returns-clause-none : goal.returns-clause-none
returns-clause-none g c =
    let over = c.loop-place-test.false in
    λ none. none_anywhere (λ (b : AskerValue g.row.H.Denot). same_session b.session c.args.session) c.args.sessions.now c.loop-place.place (omega (arith, over))
    c.loop-place.invariant
