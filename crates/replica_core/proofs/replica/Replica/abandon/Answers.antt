use Rattle.std.proofs.Common.{refl, sym, ap, ◌∙◌, subst}
use Rattle.std.specs.Prelude.{◌==◌}
use Rattle.std.specs.List.{slice_get}
use Rattle.sync_protocol.specs.Asking.{AskerValue}
use Rattle.replica_core.specs.Meaning.{ReplicaValue}
use Rattle.replica_core.specs.Tied.{IsFirstAt}
use Rattle.replica_core.proofs.Asks.{abandon_missed, abandon_found}
use Rattle.replica_core.proofs.Meant.{of_parts}
use Rattle.replica_core.proofs.replica.Replica.abandon.Goals as goal

pub returns-in_default : goal.returns-in_default
returns-in_default g c =
    let old = of_parts c.self.inside.name c.self.inside.live c.self.inside.group
    c.self.inside.opened c.self.inside.sessions.items c.self.inside.answerer in
    rw (← c.self.view_is) (abandon_missed g.H.PathHash.hash_of old c.args.number (rw c.deref.ensures.value at (c.in_default.ensures.none refl)))

pub end-requires : goal.end-requires
end-requires g c =
    let found = rw c.deref.ensures.value at c.in-Some.ensures.found in
    (found.0, ap (λ (r : ReplicaValue _). slice_get r.sessions c.in-Some.place) (sym c.self.view_is) ∙ found.1.0)

pub returns : goal.returns
returns g c =
    let found = rw c.deref.ensures.value at c.in-Some.ensures.found in
    let first = subst (λ (r : ReplicaValue _). IsFirstAt (λ (b : AskerValue _). b.session.number == c.args.number) r.sessions c.in-Some.place found.0)
    c.self.view_is found.1 in
    abandon_found g.H.PathHash.hash_of c.args.self.now c.args.number c.in-Some.place found.0 first c.end.new.self (c.end.ensures.step found.0 first.0)
    c.end.ensures.waiting c.end.ensures.hash
