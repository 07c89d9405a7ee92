use Rattle.replica_world.proofs.Refusing.{foretells_not_sent, foretells_sent}
use Rattle.replica_world.proofs.foreseeing.foresee_delivery.Goals as goal

pub returns-in-Some : goal.returns-in-Some
returns-in-Some g c hash = foretells_sent hash c.args.replicas.now c.args.posted.now c.args.number c.args.name c.in-Some.field-0.now
    c.if-not-contains_key.ensures c.in-Some.ensures

pub returns-in-None : goal.returns-in-None
returns-in-None g c hash = foretells_not_sent hash c.args.replicas.now c.args.posted.now c.args.number c.args.name c.if-not-contains_key.ensures
    c.in-None.ensures
