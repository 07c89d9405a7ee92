use Rattle.std.proofs.Common.{ap, ◌∙◌}
use Rattle.std.specs.List.{slice_get}
use Rattle.replica_core.specs.declared.outcome.Outcome.TheVariants as told
use Rattle.replica_core.specs.Meaning.{hash_in, meaning}
use Rattle.replica_core.specs.Own.{IsOwn}
use Rattle.replica_core.proofs.Changing.{at_place}
use Rattle.replica_core.proofs.Goes.{done_taken, silent_turn}
use Rattle.replica_core.proofs.replica.Replica.close.Goals as goal

pub join_session-requires : goal.join_session-requires
join_session-requires g c =
    let now = c.args.self.now in (
      c.requires.0,
      at_place (IsOwn g.H.PathHash.hash_of now.name (hash_in now) (meaning now).live)
          now.sessions c.args.place c.requires.0 c.requires.1 c.is_replica.ensures.replica.own,
      c.requires.2,
    )

pub end-requires : goal.end-requires
end-requires g c = (c.requires.0, ap (λ xs. slice_get xs c.args.place) c.in_ok-join_session.ensures.sessions ∙ c.requires.1)

pub returns-clause-ok : goal.returns-clause-ok
returns-clause-ok g c =
    let now = c.args.self.now in
    let own = at_place (IsOwn g.H.PathHash.hash_of now.name (hash_in now) (meaning now).live)
    now.sessions c.args.place c.requires.0 c.requires.1 c.is_replica.ensures.replica.own in
    done_taken g.H.PathHash.hash_of now.name (hash_in now) (meaning now).live c.requires.0 own c.args.next c.requires.2 (meaning now)
    (meaning c.join_session.new.self) (meaning c.end.new.self) c.in_ok-join_session.ensures.ok
    (c.end.ensures.step c.requires.0 (ap (λ xs. slice_get xs c.args.place) c.in_ok-join_session.ensures.sessions ∙ c.requires.1))
    ∙ silent_turn (meaning c.end.new.self) c.silent.result.outcome told.Done c.silent.result.replies.items c.silent.ensures.outcome c.silent.ensures.replies
