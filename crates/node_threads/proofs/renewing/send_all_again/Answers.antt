use Rattle.std.proofs.Common.{◌≡◌, ◌∷◌, ◌++◌, [], ℕ, ◌-◌, ◌^◌, ◌+◌, take, map, refl, ap, sym, subst, ◌∙◌}
use Rattle.std.proofs.lemmas.List.{map-append, take_more}
use Rattle.wire_form.specs.Session.{SessionValue}
use Rattle.node_threads.specs.Renewing.{AreSentAgain}
use Rattle.node_threads.specs.Serving.{Refused, Taken, lost, refused, unsent}
use Rattle.node_threads.proofs.Again.{again_more, refused_more}
use Rattle.node_threads.proofs.Posts.{counts_none, counts_on}
use Rattle.node_threads.proofs.renewing.send_all_again.Goals.{in-Some, in-None}
use Rattle.node_threads.proofs.renewing.send_all_again.Goals as goal

pub loop-session-init : goal.loop-session-init
loop-session-init g c = ([], (refl, refl), refl, refl, refl)

pub loop-session-preserved : goal.loop-session-preserved
loop-session-preserved g c =
    let receives = g.P.Post.receives in
    let sends = g.P.Post.sends in
    let rests = g.P.Post.rests in
    let first = g.K.Naming.first in
    let number : SessionValue → ℕ = λ s. s.number in
    let sessions = c.args.sessions.now in
    let before = take c.loop-session.session-index sessions in
    let session = c.session-item.result in
    let count = c.number.result in
    let begun = c.args.post.now in
    let post = c.loop-session.post in
    let last = c.send_one_again.new.post in
    let oldest = c.args.client.now in
    let old = c.loop-session.client in
    let new = c.send_one_again.new.client in
    let limit = 2 ^ 64 - 1 in
    let told = c.loop-session.invariant in
    let steps = told.0 in
    let one_more = take_more sessions c.loop-session.session-index session c.loop-session-test.true ∙ ap (λ x. before ++ x ∷ []) (sym c.session-item.is) in
    let named = map-append number before (session ∷ []) ∙ ap (λ n. map number before ++ n ∷ []) (sym c.number.ensures.value) in
    let more : map number (take (c.loop-session.session-index + 1) sessions) ≡ map number before ++ count ∷ [] = ap (map number) one_more ∙ named in
    elim c.match-send_one_again.branch [
      | in-Some w ↦
          let turn = Taken w.in-Some.missed.unsent w.in-Some.missed.lost in (
            steps ++ turn ∷ [],
            subst (λ ns. AreSentAgain receives sends rests first begun last oldest new ns (steps ++ turn ∷ [])) (sym more)
                (again_more receives sends rests first count new begun post last oldest old (map number before) steps
                w.in-Some.missed.unsent w.in-Some.missed.lost told.1 w.in-Some.ensures.sent),
            w.refused-is ∙ counts_none limit refused steps turn c.loop-session.refused refl told.2,
            w.unsent-is ∙ w.saturating_add-unsent.ensures ∙ counts_on limit unsent steps turn c.loop-session.unsent told.3,
            w.lost-is ∙ w.saturating_add-lost.ensures ∙ counts_on limit lost steps turn c.loop-session.lost told.4,
          )
      | in-None w ↦
          let none = w.in-None.ensures.refused refl in (
            steps ++ Refused ∷ [],
            subst (λ ns. AreSentAgain receives sends rests first begun last oldest new ns (steps ++ Refused ∷ [])) (sym more)
                (subst (λ q. AreSentAgain receives sends rests first begun q oldest new (map number before ++ count ∷ []) (steps ++ Refused ∷ []))
                (sym none.1) (refused_more receives sends rests first count new begun post oldest old (map number before) steps told.1 none.0)),
            w.refused-is ∙ w.saturating_add-refused.ensures ∙ counts_on limit refused steps Refused c.loop-session.refused told.2,
            w.unsent-is ∙ counts_none limit unsent steps Refused c.loop-session.unsent refl told.3,
            w.lost-is ∙ counts_none limit lost steps Refused c.loop-session.lost refl told.4,
          )
    ]
