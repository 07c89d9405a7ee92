use Rattle.std.proofs.Common.{inl, inr, refl, ap, ◌∙◌}
use Rattle.replica_model.specs.Crashing.{Saves}
use Rattle.replica_world.specs.Held.{after}
use Rattle.replica_world.specs.Keeping.{WorldValue}
use Rattle.replica_world.proofs.Living.{alive_noted, seen_noted, is_known, alive_saved, seen_saved}
use Rattle.replica_world.proofs.Recovered.{notes_same}
use Rattle.replica_world.proofs.world.World.save.Goals as goal

pub returns-then-not-contains_key-clause-refused : goal.returns-then-not-contains_key-clause-refused
returns-then-not-contains_key-clause-refused g c =
    let s = c.self.inside in
    rw (← c.self.view_is)
    (inl (refl, is_known g.H.PathHash.hash_of s.hash s.replicas s.posted s.kept s.past.items c.self.invariant c.args.name _ c.if-not-contains_key.ensures))

pub invariant_of-self : goal.invariant_of-self
invariant_of-self g c =
    let s = c.self.inside in
    alive_noted g.H.PathHash.hash_of s.hash s.replicas s.posted s.kept s.past.items c.self.invariant c.make_place.new.kept
    (notes_same s.replicas s.kept c.make_place.new.kept c.in-Err.ensures.saves c.in-Err.ensures.checkpoints)

pub returns-in-Err-clause-refused : goal.returns-in-Err-clause-refused
returns-in-Err-clause-refused g c =
    let s = c.self.inside in
    rw (← c.self.view_is)
    (inr (
      c.in-Err.ensures.refused,
      is_known g.H.PathHash.hash_of s.hash s.replicas s.posted s.kept s.past.items c.self.invariant c.args.name _
          c.if-not-contains_key.ensures,
    ))

pub returns-in-Err-clause-unchanged : goal.returns-in-Err-clause-unchanged
returns-in-Err-clause-unchanged g c =
    let s = c.self.inside in
    rw (← c.self.view_is)
    (seen_noted g.H.PathHash.hash_of s.hash s.replicas s.posted s.kept s.past.items c.self.invariant c.make_place.new.kept
    (notes_same s.replicas s.kept c.make_place.new.kept c.in-Err.ensures.saves c.in-Err.ensures.checkpoints))

pub invariant_of-self-2 : goal.invariant_of-self-2
invariant_of-self-2 g c =
    let s = c.self.inside in
    let alive = alive_noted g.H.PathHash.hash_of s.hash s.replicas s.posted s.kept s.past.items c.self.invariant c.make_place.new.kept
    (notes_same s.replicas s.kept c.make_place.new.kept c.in_default.ensures.saves c.in_default.ensures.checkpoints) in
    alive_saved g.H.PathHash.hash_of s.hash s.replicas s.posted c.make_place.new.kept s.past.items alive c.save_once.new.kept c.args.name
    c.save_once.ensures.once

pub returns-clause-ok : goal.returns-clause-ok
returns-clause-ok g c =
    let s = c.self.inside in
    let notes = notes_same s.replicas s.kept c.make_place.new.kept c.in_default.ensures.saves c.in_default.ensures.checkpoints in
    let alive = alive_noted g.H.PathHash.hash_of s.hash s.replicas s.posted s.kept s.past.items c.self.invariant c.make_place.new.kept notes in
    rw (← c.self.view_is)
    (seen_saved g.H.PathHash.hash_of s.hash s.replicas s.posted c.make_place.new.kept s.past.items alive c.save_once.new.kept c.args.name
    c.save_once.ensures.once
    ∙ ap (λ (w : WorldValue _). record { hash = s.hash; messages = s.posted; held = after w.held (Saves c.args.name) })
    (seen_noted g.H.PathHash.hash_of s.hash s.replicas s.posted s.kept s.past.items c.self.invariant c.make_place.new.kept notes))

pub returns-clause-there : goal.returns-clause-there
returns-clause-there g c =
    let s = c.self.inside in
    rw (← c.self.view_is) (is_known g.H.PathHash.hash_of s.hash s.replicas s.posted s.kept s.past.items c.self.invariant c.args.name _
    c.if-not-contains_key.ensures)
