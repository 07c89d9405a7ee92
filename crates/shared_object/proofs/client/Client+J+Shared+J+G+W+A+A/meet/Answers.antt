use Rattle.std.proofs.Common.{◌≡◌, List, sym, ap, ◌∙◌, subst}
use mathlib.Core.List.{IsPrefix}
use Rattle.shared_object.specs.History.{seen_in}
use Rattle.shared_object.proofs.Seats.{seen_more, own_calls}
use Rattle.shared_object.proofs.client.Client+J+Shared+J+G+W+A+A.meet.Goals as goal

pub returns-clause-own : goal.returns-clause-own
returns-clause-own g c met =
    let front = seen_in c.self.inside.view in
    let same : front ≡ c.in-Some.view = ap seen_in (sym c.take.ensures.value ∙ c.in-Some.is) in
    let pre : IsPrefix front c.args.guarded.now = subst (λ (f : List _). IsPrefix front f) (c.meet-view.ensures.whole met)
    (subst (λ (f : List _). IsPrefix f c.meet-view.result.0) (sym same) c.meet-view.ensures.seen) in
    rw (← c.self.view_is) (own_calls g.J.Event.Placed.place c.self.inside.place c.self.inside.operations front c.args.guarded.now c.self.invariant.2 pre
    (c.meet-view.ensures.own met))

pub returns-clause-not_called : goal.returns-clause-not_called
returns-clause-not_called g c =
    let front = seen_in c.self.inside.view in
    let same : front ≡ c.in-Some.view = ap seen_in (sym c.take.ensures.value ∙ c.in-Some.is) in
    rw (← c.self.view_is) (seen_more g.J.Event.Placed.place c.self.inside.place c.self.inside.operations front c.meet-view.result.0 c.self.invariant.2
    (subst (λ (f : List _). IsPrefix f c.meet-view.result.0) (sym same) c.meet-view.ensures.seen))
