use Rattle.replica_world.proofs.Refusing.{foretells_taken, foretells_free}
use Rattle.replica_world.proofs.foreseeing.foresee_node.Goals as goal

pub returns-then-contains_key : goal.returns-then-contains_key
returns-then-contains_key g c hash messages = foretells_taken hash c.args.replicas.now messages c.args.name c.if-contains_key.ensures

pub returns : goal.returns
returns g c hash messages = foretells_free hash c.args.replicas.now messages c.args.name c.if-contains_key.ensures
