use Rattle.std.proofs.Common.{◌≡◌, ◌∙◌, map, refl, ap}
use Rattle.causal_join.specs.OrMap.{or_map_state}
use Rattle.delta_ops.specs.Group.{group_state}
use Rattle.delta_ops.specs.LiveMap.{live_state}
use Rattle.replica_core.specs.Meaning.{open_of, kept_of, meaning}
use Rattle.replica_core.proofs.Growth.{same_grown}
use Rattle.replica_core.proofs.Meant.{of_parts, meaning_by}
use Rattle.replica_core.proofs.replica.Replica.copy.Goals as goal

pub invariant_of-result : goal.invariant_of-result
invariant_of-result g c =
    let old = of_parts c.self.inside.name c.self.inside.live c.self.inside.group
    c.self.inside.opened c.self.inside.sessions.items c.self.inside.answerer in
    let new = of_parts c.self.inside.name c.in_ok-live.live c.in_ok-group.group
    c.self.inside.opened c.in_ok-sessions.sessions.items c.in_ok-answerer.answerer in
    same_grown g.H.PathHash.hash_of old new c.self.invariant refl refl (c.in_ok-sessions.ensures.ok ∙ c.deref.ensures.value)
    c.in_ok-answerer.ensures.ok c.in_ok-live.ensures.ok

pub returns-clause-ok : goal.returns-clause-ok
returns-clause-ok g c =
    let old = of_parts c.self.inside.name c.self.inside.live c.self.inside.group
    c.self.inside.opened c.self.inside.sessions.items c.self.inside.answerer in
    let new = of_parts c.self.inside.name c.in_ok-live.live c.in_ok-group.group
    c.self.inside.opened c.in_ok-sessions.sessions.items c.in_ok-answerer.answerer in
    rw (← c.self.view_is) (meaning_by new (meaning old) refl (ap live_state c.in_ok-live.ensures.ok) (ap group_state c.in_ok-group.ensures.ok) refl
    (ap (map open_of) (c.in_ok-sessions.ensures.ok ∙ c.deref.ensures.value)) (ap (map kept_of) c.in_ok-answerer.ensures.ok))

pub returns-clause-hash : goal.returns-clause-hash
returns-clause-hash g c =
    let live : c.in_ok-live.live.0 ≡ c.self.inside.live.0 = c.in_ok-live.ensures.ok in
    rw (← c.self.view_is) (ap (λ pair. pair.0.0) live)

pub returns-clause-waiting : goal.returns-clause-waiting
returns-clause-waiting g c = rw (← c.self.view_is) (ap (map or_map_state) c.in_ok-group.ensures.ok)
