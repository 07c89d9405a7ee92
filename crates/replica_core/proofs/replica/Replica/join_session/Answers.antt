use Rattle.replica_core.specs.Meaning.{hash_in, meaning}
use Rattle.replica_core.proofs.Goes.{base_is_below, built_known}
use Rattle.replica_core.proofs.replica.Replica.join_session.Goals as goal

pub join_opened-joined-requires-clause-below : goal.join_opened-joined-requires-clause-below
join_opened-joined-requires-clause-below g c =
    let now = c.args.self.now in
    let base = c.in-Ok.ensures.base in
    base_is_below g.H.PathHash.hash_of now.name (hash_in now) (meaning now).live c.requires.0 c.requires.1 c.args.next c.requires.2 c.in-Ok.opened.base.map
    c.in-Ok.opened.seen base.1 base.2

pub join_opened-joined-requires-clause-known : goal.join_opened-joined-requires-clause-known
join_opened-joined-requires-clause-known g c =
    let now = c.args.self.now in
    built_known g.H.PathHash.hash_of now.name (hash_in now) (meaning now).live c.requires.0 c.requires.1 c.args.next c.requires.2 c.in-Ok.opened.context
    c.in-Ok.opened.built c.in-Ok.ensures.done
