use Rattle.std.proofs.Common.{◌≡◌, ◌≤◌, ◌+◌, List, length, refl, sym, ap, ◌∙◌, subst, arith}
use mathlib.Core.List.{IsPrefix}
use Rattle.shared_object.specs.History.{calls_by, seen_in}
use Rattle.shared_object.specs.Calling.{IsAccepted}
use Rattle.shared_object.proofs.Seats.{accepted, accepted_within, counted_room, own_all}
use Rattle.shared_object.proofs.client.Client+J+Shared+J+G+W+A+A.call.Goals as goal

pub overflow_add-self : goal.overflow_add-self
overflow_add-self g c =
    let ok = rw c.in-Ok.is at c.take_turn-view.ensures.ok in
    let room = counted_room g.J.Event.Placed.place c.self.inside.place c.self.inside.operations ok.0 ok.2 ok.3 in
    omega (arith, room)

pub invariant_of-self : goal.invariant_of-self
invariant_of-self g c =
    let ok = rw c.in-Ok.is at c.take_turn-view.ensures.ok in
    let event = g.C.Update.event c.args.update.now c.in-Ok.told.0 c.self.inside.place in (
      refl,
      c.self.invariant.1,
      subst (λ (f : List _). c.self.inside.operations + 1 ≤ length (calls_by g.J.Event.Placed.place c.self.inside.place f)) (sym ok.6)
          (accepted_within g.J.Event.Placed.place c.self.inside.place c.self.inside.operations ok.0 event
          (g.met.C.Update.placed c.args.update.now c.in-Ok.told.0 c.self.inside.place) ok.2),
    )

pub returns-in-Ok-clause-ok : goal.returns-in-Ok-clause-ok
returns-in-Ok-clause-ok g c =
    let ok = rw c.in-Ok.is at c.take_turn-view.ensures.ok in
    let event = g.C.Update.event c.args.update.now c.in-Ok.told.0 c.self.inside.place in
    let front = seen_in c.self.inside.view in
    let same : front ≡ c.in-Some.view = ap seen_in (sym c.take.ensures.value ∙ c.in-Some.is) in
    let pre : IsPrefix front ok.0 = subst (λ (f : List _). IsPrefix f ok.0) (sym same) ok.1 in
    let made = accepted g.J.Event.Placed.place c.self.inside.place c.self.inside.operations front ok.0 event c.self.invariant.2 pre ok.2 in
    rw (← c.self.view_is) (
      ok.0,
      subst (λ (f : List _). IsAccepted g.J.Event.Placed.place (record { place = c.self.inside.place; operations = c.self.inside.operations; front = front })
          (record { place = c.self.inside.place; operations = c.self.inside.operations + 1; front = f }) ok.0 event) (sym ok.6) made,
      ok.4,
    )

-- it is told what the turn was refused with
pub returns-in-Err-clause-refused : goal.returns-in-Err-clause-refused
returns-in-Err-clause-refused g c = rw c.in-Err.is at c.take_turn-view.ensures.refused

pub returns-in-Err-clause-no_others : goal.returns-in-Err-clause-no_others
returns-in-Err-clause-no_others g c =
    let whole = rw c.in-Err.is at c.take_turn-view.ensures.whole in
    own_all g.J.Event.Placed.place c.self.inside.place c.self.inside.operations c.take_turn-view.result.0 whole
