use Rattle.shared_object.proofs.Handed.{among_either}
use Rattle.shared_object.proofs.finishing.is_among.Goals as goal

pub returns : goal.returns
returns g c = among_either c.args.back.now c.args.clients.now c.args.place (rw c.if-has.false at c.has.ensures) c.has-2.result c.has-2.ensures
