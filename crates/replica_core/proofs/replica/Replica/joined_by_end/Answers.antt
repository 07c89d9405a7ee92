use Rattle.std.proofs.Common.{ap, ◌∙◌}
use Rattle.std.proofs.lemmas.Option.{IfSome_then}
use Rattle.std.proofs.lemmas.Result.{IfOk-weaker}
use Rattle.replica_model.specs.Replica.{Replica}
use Rattle.replica_core.specs.Meaning.{hash_in, meaning}
use Rattle.replica_core.specs.Own.{IsOwn}
use Rattle.replica_core.proofs.Changing.{at_place}
use Rattle.replica_core.proofs.Goes.{base_is_below, built_known}
use Rattle.replica_core.proofs.Turns.{closed_by}
use Rattle.replica_core.proofs.replica.Replica.joined_by_end.Goals as goal

pub opened_delta-delta-requires-clause-below : goal.opened_delta-delta-requires-clause-below
opened_delta-delta-requires-clause-below g c =
    let now = c.args.self.now in
    let base = c.in-Ok.ensures.base in
    let own = at_place (IsOwn g.H.PathHash.hash_of now.name (hash_in now) (meaning now).live)
    now.sessions c.args.place c.requires.0 c.requires.1 c.is_replica.ensures.replica.own in
    base_is_below g.H.PathHash.hash_of now.name (hash_in now) (meaning now).live c.requires.0 own c.args.next c.requires.2 c.in-Ok.opened.base.map
    c.in-Ok.opened.seen base.1 base.2

pub opened_delta-delta-requires-clause-known : goal.opened_delta-delta-requires-clause-known
opened_delta-delta-requires-clause-known g c =
    let now = c.args.self.now in
    let own = at_place (IsOwn g.H.PathHash.hash_of now.name (hash_in now) (meaning now).live)
    now.sessions c.args.place c.requires.0 c.requires.1 c.is_replica.ensures.replica.own in
    built_known g.H.PathHash.hash_of now.name (hash_in now) (meaning now).live c.requires.0 own c.args.next c.requires.2 c.in-Ok.opened.context
    c.in-Ok.opened.built c.in-Ok.ensures.done

pub returns-clause-ok : goal.returns-clause-ok
returns-clause-ok g c =
    let now = c.args.self.now in
    let closed = closed_by (meaning now) c.args.next c.in-Ok.opened.context c.in-Ok.opened.built c.in-Ok.ensures.done in
    IfOk-weaker c.opened_delta-delta.result _ _
    (λ found told. IfSome_then found told (λ delta is. ap (λ (r : Replica). r.live) closed ∙ is)) c.opened_delta-delta.ensures.ok
