use Rattle.std.proofs.Common.{◌≡◌, List, sym, ap, ◌∙◌, subst}
use mathlib.Core.List.{IsPrefix}
use Rattle.shared_object.specs.History.{seen_in}
use Rattle.shared_object.proofs.Seats.{seen_more}
use Rattle.shared_object.proofs.client.Client.snapshot.Goals as goal

-- it has seen more, and its calls are those that it had made
pub returns-clause-own : goal.returns-clause-own
returns-clause-own g c =
    let front = seen_in c.self.inside.view in
    let same : front ≡ c.in-Some.view = ap seen_in (sym c.take.ensures.value ∙ c.in-Some.is) in
    rw (← c.self.view_is) (seen_more g.J.Event.Placed.place c.self.inside.place c.self.inside.operations front c.snapshot_at-view.result.0 c.self.invariant.2
    (subst (λ (f : List _). IsPrefix f c.snapshot_at-view.result.0) (sym same) c.snapshot_at-view.ensures.seen))
