use Rattle.replica_world.proofs.Refusing.{no_peer_asked}
use Rattle.replica_world.proofs.happening.has_peer.Goals as goal

pub returns-in_default : goal.returns-in_default
returns-in_default g c hash messages w keeps = no_peer_asked w c.args.call.now c.in_default.not-Ask
