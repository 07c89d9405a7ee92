use Rattle.std.proofs.Common.{◌∙◌, sym, arith, []}
use Rattle.root_cell.proofs.Steps.{admits}
use Rattle.root_cell.proofs.cell.lay_out.Goals as goal

-- src/cell.rt
pub new-requires : goal.new-requires
new-requires g c = record {
  readers = (c.requires.places.0, omega (arith, c.requires.places.1));
  alike = c.in_ok-again.ensures ∙ sym c.in_ok-again-2.ensures;
  rule = admits g.J.Brand.book g.J.Brand.stands _ [] (rw c.in_ok-again.ensures c.requires.first, λ seat seen at. absurd cc);
}

pub furnish-requires-clause-shown : goal.furnish-requires-clause-shown
furnish-requires-clause-shown g c = c.in_ok-desk.ensures.0 ∙ c.in_ok-again.ensures
