use Rattle.std.proofs.Common.{refl, ap, ◌∙◌, length}
use Rattle.std.specs.List.{slice_get}
use Rattle.std.proofs.lemmas.Option.{slice_get_within}
use Rattle.delta_ops.specs.LiveMap.{live_state}
use Rattle.replica_core.specs.Meaning.{ReplicaValue, hash_in}
use Rattle.replica_core.specs.Own.{IsOwn}
use Rattle.replica_core.proofs.Changing.{StaysBut, at_place, advanced_is, advanced_meaning}
use Rattle.replica_core.proofs.Turns.{own_next}
use Rattle.replica_core.proofs.Meant.{of_parts}
use Rattle.replica_core.proofs.replica.Replica.advance.Goals as goal

pub replace-requires : goal.replace-requires
replace-requires g c =
    let within = slice_get_within c.args.self.now.sessions c.args.place c.requires.0 c.requires.1 in
    let same = ap (λ (r : ReplicaValue _). length r.sessions) c.self.view_is in
    rw (← same) at within

pub invariant_of-self : goal.invariant_of-self
invariant_of-self g c =
    let old = of_parts c.self.inside.name c.self.inside.live c.self.inside.group
    c.self.inside.opened c.self.inside.sessions.items c.self.inside.answerer in
    let new = of_parts c.self.inside.name c.self.inside.live c.self.inside.group c.self.inside.opened c.replace.new.items.items c.self.inside.answerer in
    let rest : StaysBut old new = record { name = refl; group = refl; opened = refl; kept = refl; hash = refl } in
    let there = ap (λ (r : ReplicaValue _). slice_get r.sessions c.args.place) c.self.view_is ∙ c.requires.1 in
    let own = at_place (IsOwn g.H.PathHash.hash_of old.name (hash_in old) (live_state old.live.0))
    old.sessions c.args.place c.requires.0 there c.self.invariant.own in
    advanced_is g.H.PathHash.hash_of old new c.self.invariant rest c.args.place c.requires.0 there c.args.next c.requires.2 c.replace.ensures refl
    (own_next g.H.PathHash.hash_of old.name (hash_in old) (live_state old.live.0) c.requires.0 c.args.next own c.requires.2 c.requires.3 c.requires.4)

pub returns-clause-step : goal.returns-clause-step
returns-clause-step g c =
    let old = of_parts c.self.inside.name c.self.inside.live c.self.inside.group
    c.self.inside.opened c.self.inside.sessions.items c.self.inside.answerer in
    let new = of_parts c.self.inside.name c.self.inside.live c.self.inside.group c.self.inside.opened c.replace.new.items.items c.self.inside.answerer in
    let rest : StaysBut old new = record { name = refl; group = refl; opened = refl; kept = refl; hash = refl } in
    let there = ap (λ (r : ReplicaValue _). slice_get r.sessions c.args.place) c.self.view_is ∙ c.requires.1 in
    rw (← c.self.view_is) (advanced_meaning g.H.PathHash.hash_of old new c.self.invariant rest c.args.place c.requires.0 there c.args.next c.requires.2
    c.replace.ensures refl)
