use Rattle.std.proofs.Common.{sym, ap, ◌∙◌, arith}
use Rattle.std.specs.Prelude.{◌==◌}
use Rattle.std.proofs.lemmas.Bool.{eq-eqb}
use Rattle.sync_protocol.specs.Asking.{AskerValue}
use Rattle.wire_form.specs.Session.{SessionValue}
use Rattle.replica_core.proofs.Firsts.{first_here, none_here, none_anywhere, apart_test}
use Rattle.replica_core.proofs.sessions.place_numbered.Goals as goal

pub returns-then-number-clause-found : goal.returns-then-number-clause-found
returns-then-number-clause-found g c =
    first_here (λ (b : AskerValue g.row.H.Denot). b.session.number == c.args.number)
    c.args.sessions.now c.loop-place.place c.index-sessions-place.result c.loop-place-test.true c.index-sessions-place.is
    (ap (λ (s : SessionValue). s.number == c.args.number) (sym c.session.ensures) ∙ ap (λ n. n == c.args.number) (sym c.number.ensures.value)
    ∙ eq-eqb c.number.result c.args.number c.if-number.true) c.loop-place.invariant

pub loop-place-preserved : goal.loop-place-preserved
loop-place-preserved g c =
    none_here (λ (b : AskerValue g.row.H.Denot). b.session.number == c.args.number)
    c.args.sessions.now c.loop-place.place c.index-sessions-place.result c.loop-place-test.true c.index-sessions-place.is
    (ap (λ (s : SessionValue). s.number == c.args.number) (sym c.session.ensures) ∙ ap (λ n. n == c.args.number) (sym c.number.ensures.value)
    ∙ apart_test c.number.result c.args.number c.if-number.false) c.loop-place.invariant

pub returns-clause-none : goal.returns-clause-none
returns-clause-none g c =
    let over = c.loop-place-test.false in
    λ none. none_anywhere (λ (b : AskerValue g.row.H.Denot). b.session.number == c.args.number) c.args.sessions.now c.loop-place.place (omega (arith, over))
    c.loop-place.invariant
