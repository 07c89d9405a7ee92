use Rattle.std.proofs.Common.{drop}
use Rattle.root_cell.specs.Rule.{due}
use Rattle.root_cell.proofs.Steps.{publishes_due}
use Rattle.root_cell.proofs.desk.show_once.Goals as goal

pub publish_as-requires : goal.publish_as-requires
publish_as-requires g c next is =
    let d = c.args.desk in
    publishes_due g.J.Brand.book g.J.Brand.stands _ _ d.desk.shown.value next (due d.desk.shown.value (drop d.behind d.log.items))
    is c.requires.longer c.requires.stands
