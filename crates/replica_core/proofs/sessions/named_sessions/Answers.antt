use Rattle.std.proofs.Common.{◌∙◌, ◌<◌, ◌++◌, [], ◌∷◌, length, map, take, sym, ap, arith}
use Rattle.std.proofs.lemmas.List.{map-append, take_all, take_more}
use Rattle.sync_protocol.specs.Asking.{AskerValue}
use Rattle.replica_core.proofs.sessions.named_sessions.Goals as goal

pub loop-session-preserved : goal.loop-session-preserved
loop-session-preserved g c =
    let at = c.loop-session.session-index in
    let sessions = c.args.sessions.now in
    let test = c.loop-session-test.true in
    let within : at < length sessions = omega (arith, test) in
    c.in_ok-push.ensures.items ∙ ap (λ xs. xs ++ c.session.result ∷ []) c.loop-session.invariant
    ∙ ap (λ s. map (λ (a : AskerValue _). a.session) (take at sessions) ++ s ∷ []) (c.session.ensures ∙ ap (λ (a : AskerValue _). a.session) c.session-item.is)
    ∙ sym (map-append (λ (a : AskerValue _). a.session) (take at sessions) _)
    ∙ ap (map (λ (a : AskerValue _). a.session)) (sym (take_more sessions at _ within))

pub returns-clause-ok : goal.returns-clause-ok
returns-clause-ok g c =
    let past = c.loop-session-test.false in
    c.loop-session.invariant ∙ ap (map (λ (a : AskerValue _). a.session)) (take_all c.loop-session.session-index c.args.sessions.now (omega (arith, past)))
