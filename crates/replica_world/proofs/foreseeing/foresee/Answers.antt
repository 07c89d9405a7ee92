use Rattle.replica_world.proofs.foreseeing.foresee.Goals as goal

pub returns-in-Node : goal.returns-in-Node
returns-in-Node g c hash = rw c.in-Node.is (c.foresee_node.ensures hash c.args.posted.now)

pub returns-in-Call : goal.returns-in-Call
returns-in-Call g c hash = rw c.in-Call.is (c.foresee_call.ensures hash c.args.posted.now)

pub returns-in-Deliver : goal.returns-in-Deliver
returns-in-Deliver g c hash = rw c.in-Deliver.is (c.foresee_delivery.ensures hash)

pub returns-in-Restart : goal.returns-in-Restart
returns-in-Restart g c hash = rw c.in-Restart.is (c.foresee_restart.ensures hash c.args.posted.now)
