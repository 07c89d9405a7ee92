use Rattle.std.proofs.Common.{below_more, below_none}
use Rattle.shared_object.proofs.finishing.has_each.Goals as goal

-- of the places before the first there is none
pub loop-place-init : goal.loop-place-init
loop-place-init g c = below_none _

pub loop-place-preserved : goal.loop-place-preserved
loop-place-preserved g c = below_more _ _ c.loop-place.invariant (rw c.if-not-is_among.false at c.is_among.ensures)
