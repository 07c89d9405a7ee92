use Rattle.replica_core.specs.Meaning.{meaning}
use Rattle.replica_core.proofs.Foretold.{put_foretold}
use Rattle.replica_core.proofs.replica.Replica.write_refusal.Goals as goal

pub returns-in-Put : goal.returns-in-Put
returns-in-Put g c = put_foretold (meaning c.args.self.now) c.put_refusal.result c.args.write.now (rw c.in-Put.is tt) c.put_refusal.ensures
