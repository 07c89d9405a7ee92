use Rattle.std.proofs.Common.{length}
use Rattle.std.specs.List.{flat_map, AllByRecursion}
use Rattle.wire_form.specs.Spelling.{Begins}
use Rattle.wire_form.proofs.page_reading.read_to_end.Given as goal

abbrev pub invariant-loop-rest : goal.invariant-loop-rest
invariant-loop-rest g l = Begins (flat_map g.T.Spelled.spell) (AllByRecursion g.T.Spelled.fits) l.bytes l.items.items l.rest

abbrev pub decreases-loop-rest : goal.decreases-loop-rest
decreases-loop-rest g l = length l.rest
