-- What holds of the sets of a world after every list of events, whatever clashes.
use Rattle.std.proofs.Common.{◌≡◌, ℕ, zero, suc, List, [], ◌∷◌, ◌++◌, map, Bool, true, false, Option, Some, None, cond, refl, sym, ap, subst}
use Rattle.std.specs.Prelude.{slice_get}
use Rattle.op_model.specs.Operation.{Operation, IsPartOf}
use Rattle.op_model.specs.Made.{put_at, remove_at, remove_field_at, clear_at}
use Rattle.op_model.specs.World.{message}
use Rattle.op_model.specs.World as sets
use Rattle.op_model.proofs.Fresh.{part_left, nothing_part, message-append, sound-happens, sound-learns, sound-nothing}
use Rattle.wire_form.specs.Session.{SessionValue, same_session}
use Rattle.replica_model.specs.Mail.{Mail, Delta, Hello, Opening, Ask, Page, Gone}
use Rattle.replica_model.specs.Replica.{Replica, Kept, open_at, kept_at}
use Rattle.replica_model.specs.Delivery.{Outcome}
use Rattle.replica_model.specs.Step.{Call, Put, Remove, RemoveField, Clear, Flush, Retry, Abandon, Restart, Answer}
use Rattle.replica_model.specs.Step as call
use Rattle.replica_model.specs.World.{World, Event, Node, At, Deliver, Message, Snapshot, sets_of, nothing, message_at, changed, follows, learns, calls}
use Rattle.replica_model.specs.World.{is_sent, is_done, first_kept, keeps, accepts, takes_page, taking_of, own_of, ends, takes, sent_as, goes}
use Rattle.replica_model.specs.World.{Happens, Runs}
use Rattle.replica_model.specs.World as world
use Rattle.replica_model.specs.Laws.{IsSound, Sound}

-- ---- what a message carries

in_message : (ms : List (List Operation)) (number : ℕ) (made : List Operation) → ((n : ℕ) → IsPartOf (message ms n) made) → IsPartOf (message ms number) made
in_message ms number made all = all number

set_at : (ms : List Message) (n : ℕ) (m : Message) → slice_get ms n ≡ Some m → message (map (λ x. x.of.seen) ms) (suc n) ≡ m.of.seen
set_at [] n m e = absurd cc
set_at (x ∷ ms) zero m e = let one : x ≡ m = cc in ap (λ (y : Message). y.of.seen) one
set_at (x ∷ ms) (suc n) m e = set_at ms n m e

pub carried : (ms : List Message) (number : ℕ) (m : Message) → message_at ms number ≡ Some m → message (map (λ x. x.of.seen) ms) number ≡ m.of.seen
carried ms zero m e = absurd cc
carried ms (suc n) m e = set_at ms n m e

map-append : (ms more : List Message) → map (λ x. x.of.seen) (ms ++ more) ≡ map (λ x. x.of.seen) ms ++ map (λ x. x.of.seen) more
map-append [] more = refl
map-append (m ∷ ms) more = ap (λ xs. m.of.seen ∷ xs) (map-append ms more)

-- ---- the messages that a replica sends are part of what was made

module _ (made group : List Operation) (kept : SessionValue → List Operation) (ks : List Kept) (here : IsPartOf group made)
    (there : (s : SessionValue) → IsPartOf (kept s) made) where
  shown_part : (mail : Mail) → IsPartOf (world.snapshot_with group kept ks mail).seen made
  shown_part (Delta d) = here
  shown_part (Hello s seen) = nothing_part made
  shown_part (Opening s context root) = there s
  shown_part (Ask s prefix) = nothing_part made
  shown_part (Page s sent) = nothing_part made
  shown_part (Gone s) = nothing_part made

  sent_part : (out : List Mail) (number : ℕ) → IsPartOf (message (map (λ x. x.of.seen) (map (sent_as group kept ks) out)) number) made
  sent_part out zero = nothing_part made
  sent_part [] (suc n) = nothing_part made
  sent_part (mail ∷ out) (suc zero) = shown_part mail
  sent_part (mail ∷ out) (suc (suc n)) = sent_part out (suc n)

sound_goes : (w : World) (name : ℕ) (new : Replica) (out : List Mail) (group : List Operation) → IsSound w → IsPartOf group w.made
    → IsSound (goes name new out group w)
sound_goes w name new out group s part = record {
  sets = record {
    seen = s.sets.seen;
    outgoing = s.sets.outgoing;
    messages = λ number.
        subst (λ ms. IsPartOf (message ms number) w.made) (sym (map-append w.messages (map (sent_as group w.kept new.kept) out)))
        (message-append (map (λ x. x.of.seen) w.messages) (map (λ x. x.of.seen) (map (sent_as group w.kept new.kept) out)) w.made s.sets.messages
        (sent_part w.made group w.kept new.kept part s.kept out) number);
    own = s.sets.own;
    told = s.sets.told;
    no_reuse = s.sets.no_reuse;
  };
  kept = s.kept;
  accepted = s.accepted;
}

-- ---- the moves

sound_learns : (w : World) (name : ℕ) (more : List Operation) → IsSound w → IsPartOf more w.made → IsSound (learns name more w)
sound_learns w name more s part = record { sets = sound-learns (sets_of w) name more s.sets part; kept = s.kept; accepted = s.accepted }

-- what was made stays made
pub made_stays : (w : World) (name : ℕ) (c : Call) (S : List Operation) → IsPartOf S w.made → IsPartOf S (calls name c w).made
made_stays w name (Put place value) S part = part_left S w.made (put_at (w.seen name) name place value) part
made_stays w name (Remove key) S part = part_left S w.made (remove_at (w.seen name) key) part
made_stays w name (RemoveField place) S part = part_left S w.made (remove_field_at (w.seen name) place) part
made_stays w name Clear S part = part_left S w.made (clear_at (w.seen name)) part
made_stays w name Flush S part = part
made_stays w name (call.Ask peer) S part = part
made_stays w name (Retry number) S part = part
made_stays w name (Abandon number) S part = part
made_stays w name Restart S part = part

sound_follows : (w : World) (e : sets.AbstractEvent) → IsSound w → ((S : List Operation) → IsPartOf S w.made → IsPartOf S (follows e w).made)
    → IsSound (follows e w)
sound_follows w e s stays = let after = sound-happens (sets_of w) e s.sets in record {
  sets = record {
    seen = after.seen;
    outgoing = after.outgoing;
    messages = λ number. stays (message (sets_of w).messages number) (s.sets.messages number);
    own = after.own;
    told = after.told;
    no_reuse = after.no_reuse;
  };
  kept = λ t. stays (w.kept t) (s.kept t);
  accepted = λ t. stays (w.accepted t).seen (s.accepted t);
}

pub sound_calls : (w : World) (name : ℕ) (c : Call) → IsSound w → IsSound (calls name c w)
sound_calls w name (Put place value) s = sound_follows w (sets.Put name place value) s (made_stays w name (Put place value))
sound_calls w name (Remove key) s = sound_follows w (sets.Remove name key) s (made_stays w name (Remove key))
sound_calls w name (RemoveField place) s = sound_follows w (sets.RemoveField name place) s (made_stays w name (RemoveField place))
sound_calls w name Clear s = sound_follows w (sets.Clear name) s (made_stays w name Clear)
sound_calls w name Flush s = sound_follows w (sets.Flush name) s (made_stays w name Flush)
sound_calls w name (call.Ask peer) s = s
sound_calls w name (Retry number) s = s
sound_calls w name (Abandon number) s = s
sound_calls w name Restart s = s

changed_part : (f : SessionValue → List Operation) (s : SessionValue) (x made : List Operation) → ((t : SessionValue) → IsPartOf (f t) made) → IsPartOf x made
    → (t : SessionValue) → IsPartOf (changed f s x t) made
changed_part f s x made all part t = step (same_session t s)
  where
    step : (b : Bool) → IsPartOf (cond b x (f t)) made
    step true = part
    step false = all t

changed_snapshot : (f : SessionValue → Snapshot) (s : SessionValue) (x : Snapshot) (made : List Operation) → ((t : SessionValue) → IsPartOf (f t).seen made)
    → IsPartOf x.seen made → (t : SessionValue) → IsPartOf (changed f s x t).seen made
changed_snapshot f s x made all part t = step (same_session t s)
  where
    step : (b : Bool) → IsPartOf (cond b x (f t)).seen made
    step true = part
    step false = all t

first_part : (k : Option Kept) (before now made : List Operation) → IsPartOf before made → IsPartOf now made → IsPartOf (first_kept k before now) made
first_part None before now made f g = g
first_part (Some k) before now made f g = f

sound_keeps : (w : World) (name : ℕ) (old : Replica) (s : SessionValue) → IsSound w → IsSound (keeps name old s w)
sound_keeps w name old t s = record {
  sets = s.sets;
  kept = changed_part w.kept t (first_kept (kept_at old.kept t) (w.kept t) (w.seen name)) w.made s.kept
      (first_part (kept_at old.kept t) (w.kept t) (w.seen name) w.made (s.kept t) (s.sets.seen name));
  accepted = s.accepted;
}

sound_ends : (w : World) (name : ℕ) (own : Rattle.sync_model.specs.Differ.Held) (of : Snapshot) (ts : List Rattle.sync_model.specs.Laws.Taking) → IsSound w
    → IsPartOf of.seen w.made → IsSound (ends name own of ts w)
sound_ends w name own of ts s part = record { sets = sound-learns (sets_of w) name of.seen s.sets part; kept = s.kept; accepted = s.accepted }

either : (b : Bool) (u w : World) → IsSound u → IsSound w → IsSound (cond b u w)
either true u w s t = s
either false u w s t = t

sound_takes : (w : World) (name : ℕ) (old : Replica) (mail : Mail) (of : Snapshot) (outcome : Outcome) → IsSound w → IsPartOf of.seen w.made
    → IsSound (takes name old mail of outcome w)
sound_takes w name old (Delta d) of outcome s part = sound_learns w name of.seen s part
sound_takes w name old (Hello t seen) of outcome s part = either (is_sent outcome) (keeps name old t w) w (sound_keeps w name old t s) s
sound_takes w name old (Opening t context root) of outcome s part =
    either (is_done outcome) (ends name (own_of (open_at old.sessions t)) of [] w) (cond (is_sent outcome) (accepts t of w) w)
    (sound_ends w name (own_of (open_at old.sessions t)) of [] s part)
    (either (is_sent outcome) (accepts t of w) w
    (record { sets = s.sets; kept = s.kept; accepted = changed_snapshot w.accepted t of w.made s.accepted part }) s)
sound_takes w name old (Ask t prefix) of outcome s part = s
sound_takes w name old (Page t sent) of outcome s part =
    either (is_done outcome) (ends name (own_of (open_at old.sessions t)) (w.accepted t) (taking_of sent ∷ w.taken t) w)
    (cond (is_sent outcome) (takes_page t sent w) w)
    (sound_ends w name (own_of (open_at old.sessions t)) (w.accepted t) (taking_of sent ∷ w.taken t) s (s.accepted t))
    (either (is_sent outcome) (takes_page t sent w) w (record { sets = s.sets; kept = s.kept; accepted = s.accepted }) s)
sound_takes w name old (Gone t) of outcome s part = s

-- ---- events

sound_happens : (hash_of : List ℕ → ℕ) (w v : World) (e : Event) (answer : Answer) → Happens hash_of w e answer v → IsSound w → IsSound v
sound_happens hash_of w v (Node name) answer (new, a, e) s =
    subst IsSound (sym e) (record {
      sets = record {
        seen = s.sets.seen;
        outgoing = s.sets.outgoing;
        messages = s.sets.messages;
        own = s.sets.own;
        told = s.sets.told;
        no_reuse = s.sets.no_reuse;
      };
      kept = s.kept;
      accepted = s.accepted;
    })
sound_happens hash_of w v (At name c) answer (there, peer, (new, out, step, e)) s =
    subst IsSound (sym e) (sound_goes (calls name c w) name new out (w.outgoing name) (sound_calls w name c s)
    (made_stays w name c (w.outgoing name) (s.sets.outgoing name)))
sound_happens hash_of w v (Deliver number name) answer (there, (m, is, (new, outcome, out, a, step, e))) s =
    let part : IsPartOf m.of.seen w.made = subst (λ S. IsPartOf S w.made) (carried w.messages number m is) (s.sets.messages number) in
    let u = takes name (w.replica name) m.mail m.of outcome w in
    subst IsSound (sym e) (sound_goes u name new out [] (sound_takes w name (w.replica name) m.mail m.of outcome s part) (nothing_part u.made))

sound_runs : (hash_of : List ℕ → ℕ) (events : List Event) (u w : World) → IsSound u → Runs hash_of u events w → IsSound w
sound_runs hash_of [] u w s e = subst IsSound (sym e) s
sound_runs hash_of (x ∷ events) u w s (answer, t, step, rest) = sound_runs hash_of events t w (sound_happens hash_of u t x answer step s) rest

pub sound : Sound
sound hash_of events w = sound_runs hash_of events nothing w (record { sets = sound-nothing; kept = λ t. nothing_part []; accepted = λ t. nothing_part [] })
