use Rattle.std.proofs.Common.{ap, subst, List}
use mathlib.Core.List.{IsPrefix}
use Rattle.root_cell.proofs.Prefixes.{prefix_tested}
use Rattle.root_cell.proofs.front.Front.is_behind.Goals as goal

pub returns : goal.returns
returns g c =
    let both = c.learn.new.self.log in
    let this : IsPrefix c.self.inside.seen.log both = subst (λ (l : List g.row.E.Denot). IsPrefix l both) (ap (λ s. s.log) c.again-both.ensures)
    c.learn.ensures.2 in
    rw (← c.self.view_is, ← c.other.view_is)
    (prefix_tested c.self.inside.seen.log c.other.inside.seen.log both c.self.inside.events c.other.inside.events c.self.invariant.0 c.other.invariant.0 this
    c.learn.ensures.3)
