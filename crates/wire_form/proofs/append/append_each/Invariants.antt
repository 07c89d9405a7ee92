use Rattle.std.proofs.Common.{take}
use Rattle.std.specs.List.{flat_map, AllByRecursion}
use Rattle.wire_form.specs.Writing.{Appends}
use Rattle.wire_form.proofs.append.append_each.Given as goal

abbrev pub invariant-loop-item : goal.invariant-loop-item
invariant-loop-item g l = Appends (flat_map g.T.Spelled.spell) (AllByRecursion g.T.Spelled.fits) l.fn.out.items l.out.items (take l.item-index l.items)
