use Rattle.std.proofs.Common.{refl}
use Rattle.causal_join.specs.OrMap.{or_map_state}
use Rattle.replica_model.specs.Replica.{joins}
use Rattle.replica_core.specs.Meaning.{meaning}
use Rattle.replica_core.proofs.Came.{delta_came}
use Rattle.replica_core.proofs.Growth.{same_grown, joined_grown}
use Rattle.replica_core.proofs.MappedPair.{mapped}
use Rattle.replica_core.proofs.Meant.{of_parts, meaning_by}
use Rattle.replica_core.proofs.Pairs.{live_joined}
use Rattle.replica_core.proofs.replica.Replica.take_over.Goals as goal

pub invariant_of-self : goal.invariant_of-self
invariant_of-self g c = same_grown g.H.PathHash.hash_of _ _ c.self.invariant refl refl refl refl c.in_err-take_delta.ensures.unchanged

pub invariant_of-self-2 : goal.invariant_of-self-2
invariant_of-self-2 g c =
    joined_grown g.H.PathHash.hash_of _ _ (or_map_state c.args.delta) c.self.invariant refl refl refl refl c.take_delta.ensures.hash
    (live_joined c.take_delta.new.self.0 c.self.inside.live.0 c.args.delta c.in_ok-take_delta.ensures.ok)

pub returns-clause-ok : goal.returns-clause-ok
returns-clause-ok g c =
    let old = of_parts c.self.inside.name c.self.inside.live c.self.inside.group
    c.self.inside.opened c.self.inside.sessions.items c.self.inside.answerer in
    let new = of_parts c.self.inside.name c.take_delta.new.self c.self.inside.group
    c.self.inside.opened c.self.inside.sessions.items c.self.inside.answerer in
    rw (← c.self.view_is) (delta_came g.H.PathHash.hash_of old
    (mapped c.self.inside.live.0 c.store.result.now c.store.ensures.value c.store.ensures.filled c.store.ensures.canonical) new
    (or_map_state c.args.delta)
    (meaning_by new (joins (meaning old) (or_map_state c.args.delta)) refl
    (live_joined c.take_delta.new.self.0 c.self.inside.live.0 c.args.delta c.in_ok-take_delta.ensures.ok) refl refl refl refl)
    refl c.take_delta.ensures.hash)
