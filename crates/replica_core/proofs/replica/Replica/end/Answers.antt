use Rattle.std.proofs.Common.{refl, sym, ap, ◌∙◌, length, arith}
use Rattle.std.specs.List.{slice_get}
use Rattle.std.proofs.lemmas.Option.{slice_get_within}
use Rattle.replica_core.specs.Meaning.{ReplicaValue}
use Rattle.replica_core.proofs.Changing.{StaysBut}
use Rattle.replica_core.proofs.Goes.{out_is, out_meaning}
use Rattle.replica_core.proofs.Meant.{of_parts}
use Rattle.replica_core.proofs.replica.Replica.end.Goals as goal

pub remove-requires : goal.remove-requires
remove-requires g c =
    let within = slice_get_within c.args.self.now.sessions c.args.place c.requires.0 c.requires.1 in
    let same = ap (λ (r : ReplicaValue _). length r.sessions) c.self.view_is in
    let items = c.self.inside.sessions.ok.0 in omega (arith, within, same, items)

pub invariant_of-self : goal.invariant_of-self
invariant_of-self g c =
    let old = of_parts c.self.inside.name c.self.inside.live c.self.inside.group
    c.self.inside.opened c.self.inside.sessions.items c.self.inside.answerer in
    let new = of_parts c.self.inside.name c.self.inside.live c.self.inside.group c.self.inside.opened c.remove.new.self.items c.self.inside.answerer in
    let rest : StaysBut old new = record { name = refl; group = refl; opened = refl; kept = refl; hash = refl } in
    let there = ap (λ (r : ReplicaValue _). slice_get r.sessions c.args.place) c.self.view_is ∙ c.requires.1 in
    out_is g.H.PathHash.hash_of old new c.self.invariant rest c.args.place c.requires.0 there c.requires.0 refl c.remove.ensures.items
    (sym c.remove.ensures.items ∙ c.remove.ensures.by_index.2)

pub returns-clause-step : goal.returns-clause-step
returns-clause-step g c =
    let old = of_parts c.self.inside.name c.self.inside.live c.self.inside.group
    c.self.inside.opened c.self.inside.sessions.items c.self.inside.answerer in
    let new = of_parts c.self.inside.name c.self.inside.live c.self.inside.group c.self.inside.opened c.remove.new.self.items c.self.inside.answerer in
    let rest : StaysBut old new = record { name = refl; group = refl; opened = refl; kept = refl; hash = refl } in
    rw (← c.self.view_is) (λ a there. out_meaning g.H.PathHash.hash_of old new c.self.invariant rest c.args.place a there a refl c.remove.ensures.items)
