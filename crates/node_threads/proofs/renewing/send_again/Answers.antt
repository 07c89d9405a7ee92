use Rattle.std.proofs.Common.{◌≡◌, ℕ, map, ap, subst, ◌∙◌}
use Rattle.std.proofs.lemmas.Simd.{map-map}
use Rattle.wire_form.specs.Session.{SessionValue}
use Rattle.replica_core.specs.Meaning.{meaning}
use Rattle.replica_model.specs.Replica.{Open}
use Rattle.node_threads.specs.Renewing.{AreSentAgain}
use Rattle.node_threads.proofs.renewing.send_again.Goals as goal

-- the synchronisations that send again are those that are open at the replica then
pub returns-clause-sent : goal.returns-clause-sent
returns-clause-sent g c =
    let found = c.in_ok-sessions.ensures.found in
    let r = meaning found.0 in
    let sent = c.send_all_again.ensures in
    let number : SessionValue → ℕ = λ s. s.number in
    let session : Open → SessionValue = λ o. o.session in
    let numbers : map number c.deref.result.now ≡ map (λ o. number (session o)) r.sessions = ap (map number) (c.deref.ensures.value ∙ found.2.0)
    ∙ map-map number session r.sessions in (
      c.inspect.new.self,
      r,
      sent.0,
      c.in_ok-sessions.ensures.own,
      found.1,
      subst (λ ns. AreSentAgain g.P.Post.receives g.P.Post.sends g.P.Post.rests g.K.Naming.first c.args.post.now c.send_all_again.new.post c.inspect.new.self
          c.send_all_again.new.client ns sent.0) numbers sent.1,
      sent.2,
      sent.3,
      sent.4,
    )
