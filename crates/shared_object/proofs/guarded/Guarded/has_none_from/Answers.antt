use Rattle.std.proofs.Common.{List, length, sym, ap, ◌∙◌}
use Rattle.shared_object.specs.History.{calls_by}
use Rattle.shared_object.proofs.Calls.{none_of}
use Rattle.shared_object.proofs.guarded.Guarded.has_none_from.Goals as goal

pub returns : goal.returns
returns g c is p le =
    none_of _ (ap (λ (h : List _). length (calls_by g.J.Event.Placed.place p h)) (sym c.self.view_is) ∙ (c.self.invariant.2 p ∙ c.is_zero_from.ensures is p le))
