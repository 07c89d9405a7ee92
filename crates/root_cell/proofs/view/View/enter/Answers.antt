use Rattle.root_cell.proofs.Steps.{enters}
use Rattle.root_cell.proofs.view.View.enter.Goals as goal

pub enter_as-requires : goal.enter_as-requires
enter_as-requires g c = enters g.J.Brand.book g.J.Brand.stands _ _
