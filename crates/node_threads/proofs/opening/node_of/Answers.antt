use Rattle.std.proofs.Common.{◌≡◌, ◌∙◌, [], ap, sym, length, replicate, subst, arith}
use Rattle.std.proofs.lemmas.List.{length-replicate}
use Rattle.std.proofs.lemmas.Result.{IfOk-weaker}
use Rattle.node_threads.proofs.opening.node_of.Goals as goal

-- as many places are free as there are views
pub own-requires-clause-places : goal.own-requires-clause-places
own-requires-clause-places g c =
    let count = c.in-Ok.views.ok.0 ∙ ap length c.in-Ok.ensures.views ∙ length-replicate c.args.places [] in
    omega (arith, count, c.requires.places.1)

pub own-requires-clause-views : goal.own-requires-clause-views
own-requires-clause-views g c =
    let count = c.in-Ok.views.ok.0 ∙ ap length c.in-Ok.ensures.views ∙ length-replicate c.args.places [] in
    subst (λ n. c.in-Ok.views.items ≡ replicate n []) (sym count) c.in-Ok.ensures.views

pub returns-in-Ok-clause-ok : goal.returns-in-Ok-clause-ok
returns-in-Ok-clause-ok g c =
    let count = c.in-Ok.views.ok.0 ∙ ap length c.in-Ok.ensures.views ∙ length-replicate c.args.places [] in
    IfOk-weaker c.own.result _ _ (λ node is. subst (λ n. node ≡ record { taken = 0; free = n; back = [] }) count is) c.own.ensures.ok
