use Rattle.std.proofs.Common.{◌≡◌, List, refl, sym, ap, ◌∙◌, subst}
use mathlib.Core.List.{IsPrefix}
use Rattle.root_cell.proofs.Prefixes.{prefix_self}
use Rattle.shared_object.specs.History.{seen_in}
use Rattle.shared_object.proofs.Seats.{seen_more}
use Rattle.shared_object.proofs.client.Client.look.Goals as goal

-- the root that was entered stands for what the client has seen then
pub returns-in-Ok-clause-found : goal.returns-in-Ok-clause-found
returns-in-Ok-clause-found g c =
    let found = c.look_at-view.ensures.found in
    (found.0, rw c.look_at-view.ensures.view found.1, found.2)

pub returns-in-Err-clause-own : goal.returns-in-Err-clause-own
returns-in-Err-clause-own g c =
    let front = seen_in c.self.inside.view in
    let same : front ≡ c.in-Err.view = ap seen_in (sym c.take.ensures.value ∙ c.in-Some.is) ∙ sym c.in-Err.ensures.back in
    rw (← c.self.view_is) (seen_more g.J.Event.Placed.place c.self.inside.place c.self.inside.operations front c.in-Err.view c.self.invariant.2
    (subst (λ (f : List _). IsPrefix front f) same (prefix_self front)))

pub returns-in-Err-clause-err : goal.returns-in-Err-clause-err
returns-in-Err-clause-err g c = refl
