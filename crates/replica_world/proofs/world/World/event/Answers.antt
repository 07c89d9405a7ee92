use Rattle.std.proofs.Common.{◌≡◌, ℕ, ◌+◌, ◌-◌, ◌==◌, ◌++◌, ◌||◌, [], ◌∷◌, length, map, sym, ap, ◌∙◌, subst, arith, length-append}
use Rattle.std.specs.Prelude.{not}
use Rattle.replica_model.specs.Crashing.{may_be_lost}
use Rattle.replica_model.specs.Happened.{Happened}
use Rattle.replica_model.specs.Laws.{replica_of}
use Rattle.replica_world.specs.Happening.{answer_value, event_value}
use Rattle.replica_world.specs.Held.{after, happened_in, held_in, is_saved_with, occurrence}
use Rattle.replica_world.specs.Keeping.{Makes}
use Rattle.replica_world.specs.Kept.{accepted_value, saves_in, Settles}
use Rattle.replica_world.proofs.Happened.{event_left, event_refused, event_told}
use Rattle.replica_world.proofs.Living.{alive_noted, seen_noted, alive_event, seen_event}
use Rattle.replica_world.proofs.Results.{list_push}
use Rattle.replica_world.proofs.world.World.event.Given as given
use Rattle.replica_world.proofs.world.World.event.Goals as goal

-- ---- a refused event

pub invariant_of-self : goal.invariant_of-self
invariant_of-self g c =
    let s = c.self.inside in
    rw c.in-Err.ensures.past (alive_noted g.H.PathHash.hash_of s.hash s.replicas s.posted s.kept s.past.items c.self.invariant c.ready.new.kept
    c.in-Err.ensures.notes)

pub returns-in-Err-clause-refused : goal.returns-in-Err-clause-refused
returns-in-Err-clause-refused g c =
    let s = c.self.inside in
    rw (← c.self.view_is)
    (event_refused g.H.PathHash.hash_of s.hash s.replicas s.posted (happened_in (held_in (saves_in s.kept) (map accepted_value s.past.items))) c.self.invariant.0
    (event_value c.args.event) c.in-Err.refusal
    (c.in-Err.ensures.refused s.hash))

pub returns-in-Err-clause-unchanged : goal.returns-in-Err-clause-unchanged
returns-in-Err-clause-unchanged g c =
    let s = c.self.inside in
    rw (← c.self.view_is, c.in-Err.ensures.past)
    (seen_noted g.H.PathHash.hash_of s.hash s.replicas s.posted s.kept s.past.items c.self.invariant c.ready.new.kept c.in-Err.ensures.notes)

pub invariant_of-self-in-Err-happen : goal.invariant_of-self-in-Err-happen
invariant_of-self-in-Err-happen g c =
    let s = c.self.inside in
    let alive = alive_noted g.H.PathHash.hash_of s.hash s.replicas s.posted s.kept s.past.items c.self.invariant c.ready.new.kept c.in_default.ensures.notes in
    rw c.in_default.ensures.past (
      event_left g.H.PathHash.hash_of s.hash s.replicas s.posted (happened_in (held_in (saves_in c.ready.new.kept) (map accepted_value s.past.items)))
          alive.0 c.happen.new.replicas c.happen.new.posted
          (event_value c.args.event) c.in-Err-happen.ensures.unchanged,
      alive.1,
    )

pub returns-in-Err-happen-clause-refused : goal.returns-in-Err-happen-clause-refused
returns-in-Err-happen-clause-refused g c =
    let s = c.self.inside in
    rw (← c.self.view_is)
    (event_refused g.H.PathHash.hash_of s.hash s.replicas s.posted (happened_in (held_in (saves_in s.kept) (map accepted_value s.past.items))) c.self.invariant.0
    (event_value c.args.event) c.in-Err-happen.refusal
    c.in-Err-happen.ensures.refused)

pub returns-in-Err-happen-clause-unchanged : goal.returns-in-Err-happen-clause-unchanged
returns-in-Err-happen-clause-unchanged g c =
    let s = c.self.inside in
    rw (← c.self.view_is, c.in_default.ensures.past, c.in-Err-happen.ensures.unposted)
    (seen_noted g.H.PathHash.hash_of s.hash s.replicas s.posted s.kept s.past.items c.self.invariant c.ready.new.kept c.in_default.ensures.notes)

-- ---- one that happened

-- how many messages were added
abbrev added : (g : given.Over) (c : goal.After-unwrap g) → ℕ
added g c = c.len-end.result + 1 - (c.len-first.result + 1)

-- as many as stand behind the others
added_are : (g : given.Over) (c : goal.After-unwrap g) → added g c ≡ length c.in-Ok.ensures.adds.0
added_are g c =
    let more = ap length c.in-Ok.ensures.adds.1 ∙ length-append c.self.inside.posted c.in-Ok.ensures.adds.0 in
    let first = c.len-first.ensures.count in
    let end = c.len-end.ensures.count in
    omega (arith, more, first, end)

abbrev happened : (g : given.Over) (c : goal.After-unwrap g) → Happened
happened g c = record { event = event_value c.args.event; answer = answer_value c.in-Ok.answer; sent = added g c }

counted : (g : given.Over) (c : goal.After-unwrap g) → length c.happen.new.posted ≡ length c.self.inside.posted + added g c
counted g c = ap length c.in-Ok.ensures.adds.1 ∙ length-append c.self.inside.posted c.in-Ok.ensures.adds.0
    ∙ ap (λ n. length c.self.inside.posted + n) (sym (added_are g c))

settled : (g : given.Over) (c : goal.After-unwrap g) → Settles (is_saved_with (happened g c)) c.ready.new.kept c.settle-saves.new.kept
    (replica_of (event_value c.args.event))
settled g c =
    let e = event_value c.args.event in
    let flag : c.is_to_be_saved-is_saved.result ≡ is_saved_with (happened g c) = c.is_to_be_saved-is_saved.ensures
    ∙ ap (λ b. not (may_be_lost e) || (not (added g c == 0) || b)) c.further-is_further.ensures.further in
    subst (λ b. Settles b c.ready.new.kept c.settle-saves.new.kept (replica_of e)) flag
    (subst (Settles c.is_to_be_saved-is_saved.result c.ready.new.kept c.settle-saves.new.kept) c.name.ensures c.settle-saves.ensures.settles)

accepted : (g : given.Over) (c : goal.After-unwrap g) → accepted_value c.new-accepted.result
    ≡ (happened g c, saves_in c.ready.new.kept (replica_of (event_value c.args.event)))
accepted g c =
    c.new-accepted.ensures
    ∙ (λ i. (
      record { event = event_value c.args.event; answer = answer_value (c.further-is_further.ensures.same i); sent = added g c },
      (c.settle-saves.ensures.before ∙ ap (saves_in c.ready.new.kept) c.name.ensures) i,
    ))

pushed : (g : given.Over) (c : goal.After-unwrap g) → c.push.new.self.items ≡ c.self.inside.past.items ++ c.new-accepted.result ∷ []
pushed g c = list_push c.self.inside.past.items c.ready.new.past.items c.push.new.self.items c.new-accepted.result c.push.result c.unwrap.result
    c.in_default.ensures.past c.push.ensures.items c.unwrap.ensures

pub invariant_of-self-2 : goal.invariant_of-self-2
invariant_of-self-2 g c =
    let s = c.self.inside in
    let alive = alive_noted g.H.PathHash.hash_of s.hash s.replicas s.posted s.kept s.past.items c.self.invariant c.ready.new.kept c.in_default.ensures.notes in
    rw (pushed g c)
    (alive_event g.H.PathHash.hash_of s.hash s.replicas s.posted c.ready.new.kept s.past.items alive c.happen.new.replicas c.happen.new.posted
    (happened g c) c.in-Ok.ensures.ok (counted g c) c.in_default.ensures.ready c.settle-saves.new.kept (settled g c) c.new-accepted.result (accepted g c))

pub returns-clause-ok : goal.returns-clause-ok
returns-clause-ok g c =
    let s = c.self.inside in
    let alive = alive_noted g.H.PathHash.hash_of s.hash s.replicas s.posted s.kept s.past.items c.self.invariant c.ready.new.kept c.in_default.ensures.notes in
    let noted = seen_noted g.H.PathHash.hash_of s.hash s.replicas s.posted s.kept s.past.items c.self.invariant c.ready.new.kept c.in_default.ensures.notes in
    let same = c.further-is_further.ensures.same in
    let more = c.in-Ok.ensures.adds in
    rw (← c.self.view_is, pushed g c) record {
      more = more.0;
      begins = ap (λ n. n + 1) c.len-first.ensures.count;
      stops = stops;
      makes = seen_event g.H.PathHash.hash_of s.hash s.replicas s.posted c.ready.new.kept s.past.items alive c.happen.new.replicas c.happen.new.posted
          (happened g c) c.in-Ok.ensures.ok (counted g c) c.in_default.ensures.ready c.settle-saves.new.kept (settled g c) c.new-accepted.result (accepted g c)
          ∙ (λ i. record {
            hash = s.hash;
            messages = more.1 i;
            held = after (noted i).held (occurrence (record {
              event = event_value c.args.event;
              answer = answer_value (sym same i);
              sent = added_are g c i;
            }));
          });
    }
  where
    stops : c.len-end.result + 1 ≡ c.len-first.result + 1 + length c.in-Ok.ensures.adds.0
    stops = let more = ap length c.in-Ok.ensures.adds.1 ∙ length-append c.self.inside.posted c.in-Ok.ensures.adds.0 in
        let first = c.len-first.ensures.count in
        let end = c.len-end.ensures.count in
        omega (arith, more, first, end)

pub returns-clause-happened : goal.returns-clause-happened
returns-clause-happened g c =
    let s = c.self.inside in
    let e = event_value c.args.event in
    let makes = subst (λ answer. Makes g.H.PathHash.hash_of s.hash s.replicas s.posted e (answer_value answer) c.happen.new.replicas c.happen.new.posted)
    (sym c.further-is_further.ensures.same) c.in-Ok.ensures.ok in
    rw (← c.self.view_is)
    (event_told g.H.PathHash.hash_of s.hash s.replicas s.posted (happened_in (held_in (saves_in s.kept) (map accepted_value s.past.items)))
    c.self.invariant.0 c.happen.new.replicas c.happen.new.posted
    e (answer_value c.further-is_further.result.0) makes (c.len-first.result + 1) (c.len-end.result + 1) (ap (λ n. n + 1) c.len-first.ensures.count)
    (ap (λ n. n + 1) c.len-end.ensures.count))
