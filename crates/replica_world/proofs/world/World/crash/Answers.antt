use Rattle.std.proofs.Common.{◌≡◌, ◌++◌, [], ◌∷◌, nat_lt, inl, inr, refl, ap, ◌∙◌}
use Rattle.std.specs.Prelude.{not, filter, ◌&&◌}
use Rattle.replica_model.specs.Crashing.{Crashes}
use Rattle.replica_model.specs.Crashing as crashing
use Rattle.replica_world.specs.Happening.{event_value}
use Rattle.replica_world.specs.Held.{after, is_act}
use Rattle.replica_world.specs.Keeping.{WorldValue}
use Rattle.replica_world.specs.Kept.{accepted_value, saves_in}
use Rattle.replica_world.proofs.Living.{alive_noted, seen_noted, is_known, alive_crashed, seen_crashed}
use Rattle.replica_world.proofs.Results.{list_push}
use Rattle.replica_world.proofs.world.World.crash.Given as given
use Rattle.replica_world.proofs.world.World.crash.Goals as goal

pub returns-then-not-contains_key-clause-refused : goal.returns-then-not-contains_key-clause-refused
returns-then-not-contains_key-clause-refused g c =
    let s = c.self.inside in
    rw (← c.self.view_is)
    (inl (refl, is_known g.H.PathHash.hash_of s.hash s.replicas s.posted s.kept s.past.items c.self.invariant c.args.name _ c.if-not-contains_key.ensures))

pub invariant_of-self : goal.invariant_of-self
invariant_of-self g c =
    let s = c.self.inside in
    rw c.in-Err.ensures.past (alive_noted g.H.PathHash.hash_of s.hash s.replicas s.posted s.kept s.past.items c.self.invariant c.recovered.new.kept
    c.in-Err.ensures.notes)

pub returns-in-Err-clause-refused : goal.returns-in-Err-clause-refused
returns-in-Err-clause-refused g c =
    let s = c.self.inside in
    rw (← c.self.view_is)
    (inr (
      c.in-Err.ensures.refused,
      is_known g.H.PathHash.hash_of s.hash s.replicas s.posted s.kept s.past.items c.self.invariant c.args.name _
          c.if-not-contains_key.ensures,
    ))

pub returns-in-Err-clause-unchanged : goal.returns-in-Err-clause-unchanged
returns-in-Err-clause-unchanged g c =
    let s = c.self.inside in
    rw (← c.self.view_is, c.in-Err.ensures.past)
    (seen_noted g.H.PathHash.hash_of s.hash s.replicas s.posted s.kept s.past.items c.self.invariant c.recovered.new.kept c.in-Err.ensures.notes)

-- what is left in the past, and the restart
left_of : (g : given.Over) (c : goal.After-unwrap g) → c.take_back.new.past.items
    ≡ filter (λ x. not (is_act c.args.name (event_value x.event) && not (nat_lt x.saves (saves_in c.recovered.new.kept c.args.name)))) c.self.inside.past.items
left_of g c =
    c.take_back.ensures.items
    ∙ (λ i. filter (λ x. not (is_act c.args.name (event_value x.event) && not (nat_lt x.saves (c.save_once-saves.ensures.before i)))) (c.in-Ok.ensures.past i))

restarted : (g : given.Over) (c : goal.After-unwrap g) → accepted_value c.new-restart.result
    ≡ (crashing.restarted c.args.name, saves_in c.recovered.new.kept c.args.name)
restarted g c = c.new-restart.ensures ∙ ap (λ k. (crashing.restarted c.args.name, k)) c.save_once-saves.ensures.before

pushed : (g : given.Over) (c : goal.After-unwrap g) → c.push.new.self.items ≡ c.take_back.new.past.items ++ c.new-restart.result ∷ []
pushed g c = list_push c.take_back.new.past.items c.take_back.new.past.items c.push.new.self.items c.new-restart.result c.push.result c.unwrap.result refl
    c.push.ensures.items c.unwrap.ensures

pub invariant_of-self-2 : goal.invariant_of-self-2
invariant_of-self-2 g c =
    let s = c.self.inside in
    let alive = alive_noted g.H.PathHash.hash_of s.hash s.replicas s.posted s.kept s.past.items c.self.invariant c.recovered.new.kept c.in-Ok.ensures.notes in
    rw (pushed g c)
    (alive_crashed g.H.PathHash.hash_of s.hash s.replicas s.posted c.recovered.new.kept s.past.items alive c.save_once-saves.new.kept c.args.name
    c.save_once-saves.ensures.once
    c.take_back.new.past.items (left_of g c) c.new-restart.result (restarted g c)
    c.put_back.new.replicas c.put_back.ensures.0 c.in-Ok.replica c.put_back.ensures.1 c.in-Ok.ensures.hash c.in-Ok.ensures.ok)

pub returns-clause-ok : goal.returns-clause-ok
returns-clause-ok g c =
    let s = c.self.inside in
    let alive = alive_noted g.H.PathHash.hash_of s.hash s.replicas s.posted s.kept s.past.items c.self.invariant c.recovered.new.kept c.in-Ok.ensures.notes in
    rw (← c.self.view_is, pushed g c)
    (seen_crashed g.H.PathHash.hash_of s.hash s.replicas s.posted c.recovered.new.kept s.past.items alive c.save_once-saves.new.kept c.args.name
    c.save_once-saves.ensures.once
    c.take_back.new.past.items (left_of g c) c.new-restart.result (restarted g c)
    ∙ ap (λ (w : WorldValue _). record { hash = s.hash; messages = s.posted; held = after w.held (Crashes c.args.name) })
    (seen_noted g.H.PathHash.hash_of s.hash s.replicas s.posted s.kept s.past.items c.self.invariant c.recovered.new.kept c.in-Ok.ensures.notes))

pub returns-clause-there : goal.returns-clause-there
returns-clause-there g c =
    let s = c.self.inside in
    rw (← c.self.view_is) (is_known g.H.PathHash.hash_of s.hash s.replicas s.posted s.kept s.past.items c.self.invariant c.args.name _
    c.if-not-contains_key.ensures)
