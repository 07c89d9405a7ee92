use Rattle.std.specs.List.{flat_map}
use Rattle.wire_form.specs.Spelling.{Begins}
use Rattle.wire_form.proofs.Counting.{AreSo}
use Rattle.wire_form.proofs.items.read_each.Given as goal

abbrev pub invariant-loop : goal.invariant-loop
invariant-loop g l = Begins (flat_map g.T.Spelled.spell) (AreSo g.T.Spelled.spell g.T.Spelled.fits l.counter) l.bytes l.items.items l.rest
