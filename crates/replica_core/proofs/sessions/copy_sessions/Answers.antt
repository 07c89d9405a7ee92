use Rattle.std.proofs.Common.{◌∙◌, ◌<◌, ◌++◌, [], ◌∷◌, length, take, sym, ap, arith}
use Rattle.std.proofs.lemmas.List.{take_more}
use Rattle.replica_core.proofs.sessions.copy_sessions.Goals as goal

pub loop-session-preserved : goal.loop-session-preserved
loop-session-preserved g c =
    let at = c.loop-session.session-index in
    let sessions = c.args.sessions.now in
    let test = c.loop-session-test.true in
    let within : at < length sessions = omega (arith, test) in
    c.in_ok-push.ensures.items ∙ ap (λ xs. xs ++ c.in_ok-copy.field-0 ∷ []) c.loop-session.invariant
    ∙ ap (λ x. take at sessions ++ x ∷ []) (c.in_ok-copy.ensures.ok ∙ c.session-item.is) ∙ sym (take_more sessions at _ within)
