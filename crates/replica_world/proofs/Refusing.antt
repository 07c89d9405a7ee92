-- Events of a world that happen or are refused, by what was found of its replicas: over plain variables.
use Rattle.std.proofs.Common.{◌≡◌, ◌⊎◌, ℕ, ◌-◌, nat_lt, Bool, true, false, cond, List, [], Option, Some, None, is_some, inl, inr, refl, sym, ap, ◌∙◌, subst}
use Rattle.std.specs.List.{slice_get}
use Rattle.std.specs.BTreeMap.{BTreeMap, get, is_at}
use Rattle.std.specs.Map.{lookup}
use Rattle.std.specs.Ordering.{nat_cmp}
use Rattle.dots.specs.declared.refusal.Refusal.{Refusal}
use Rattle.dots.specs.declared.refusal.Refusal.TheVariants.{OutOfMemory, NameTaken, UnknownReplica, UnknownMessage}
use Rattle.replica_model.specs.Mail.{Mail}
use Rattle.op_model.specs.Place.{Place, place_of}
use Rattle.replica_model.specs.Replica.{Replica}
use Rattle.replica_model.specs.Step as step
use Rattle.replica_model.specs.Step.{Call, Answer, Refuses}
use Rattle.replica_core.specs.declared.call.Call as calls
use Rattle.replica_core.specs.declared.call.Call.TheVariants as call
use Rattle.replica_core.specs.Writing.{call_value}
use Rattle.replica_model.specs.World.{World, Message, Node, At, Deliver, is_node, has_peer, message_at, nothing}
use Rattle.replica_core.specs.Meaning.{ReplicaValue, meaning}
use Rattle.replica_core.specs.Stepping.{Foretells, RefusesNothing, Stays, IsRefused}
use Rattle.replica_world.specs.Keeping.{Keeps, IsWorld, MakesCall, TakesMail, Makes, LeavesWorld, IsRefusedEvent, ForetellsEvent}
use Rattle.replica_world.specs.Refused.{IsUnrefused, IsRefusedIn}
use Rattle.replica_world.specs.Replaces.{Replaces}
use Rattle.replica_model.specs.Spelled.{IsSpelled}
use Rattle.replica_world.proofs.Kept.{keeps_stayed, call_keeps, take_keeps}
use Rattle.replica_world.proofs.Happened.{found_message, no_message}

apart : false ≡ true → ⊥
apart e = absurd cc

bool_is : (b : Bool) → (b ≡ true) ⊎ (b ≡ false)
bool_is true = inl refl
bool_is false = inr refl

none_some : {X : Type 0} {x : X} → None ≡ Some x → ⊥
none_some e = absurd cc

-- what the model does not refuse
module _ (w : World) where
  pub node_unrefused : (name : ℕ) → is_node w name ≡ false → IsUnrefused w (Node name)
  node_unrefused name free refusal (taken, named) = apart (sym free ∙ taken)

  pub call_unrefused : (name : ℕ) (c : Call) → is_node w name ≡ true → has_peer w c ≡ true → RefusesNothing (w.replica name) c → IsUnrefused w (At name c)
  call_unrefused name c there peer unrefused refusal (inl (missing, named)) = apart (sym missing ∙ there)
  call_unrefused name c there peer unrefused refusal (inr (here, inl (missing, named))) = apart (sym missing ∙ peer)
  call_unrefused name c there peer unrefused refusal (inr (here, inr (also, refuses))) = unrefused refusal refuses

  pub delivery_unrefused : (number name : ℕ) (m : Message) → is_node w name ≡ true → message_at w.messages number ≡ Some m → IsUnrefused w (Deliver number name)
  delivery_unrefused number name m there sent refusal (inl (missing, named)) = apart (sym missing ∙ there)
  delivery_unrefused number name m there sent refusal (inr (here, none, named)) = none_some (sym none ∙ sent)

module _ {Hash : Type 0} (hash : Hash) (old new : BTreeMap ℕ (ReplicaValue Hash)) (messages more : List (List ℕ)) where
  pub name_taken : (name : ℕ) → true ≡ is_some (get nat_cmp old name) → IsRefusedEvent hash old messages (Node name) NameTaken
  name_taken name found w keeps = inr (sym (keeps.there name) ∙ sym found, refl)

  pub no_room : (name : ℕ) (refusal : Refusal) → false ≡ is_some (get nat_cmp old name) → refusal ≡ OutOfMemory
      → IsRefusedEvent hash old messages (Node name) refusal
  no_room name refusal free is w keeps = inl (is, node_unrefused w name (sym (keeps.there name) ∙ sym free))

  -- a call
  pub no_replica : (name : ℕ) (c : Call) → false ≡ is_some (get nat_cmp old name) → IsRefusedEvent hash old messages (At name c) UnknownReplica
  no_replica name c missing w keeps = inr (inl (sym (keeps.there name) ∙ sym missing, refl))

  pub no_peer : (name : ℕ) (c : Call) → ((w : World) → Keeps hash old messages w → false ≡ has_peer w c)
      → IsRefusedEvent hash old messages (At name c) UnknownReplica
  no_peer name c missing w keeps = by (bool_is (is_node w name))
    where
      by : (is_node w name ≡ true) ⊎ (is_node w name ≡ false) → IsRefusedIn w (At name c) UnknownReplica
      by (inl there) = inr (inr (there, inl (sym (missing w keeps), refl)))
      by (inr absent) = inr (inl (absent, refl))

  pub call_made : (hash_of : Hash → List ℕ → ℕ) (name : ℕ) (c : Call) (answer : Answer) → ((w : World) → Keeps hash old messages w → true ≡ has_peer w c)
      → (before after : ReplicaValue Hash) × Replaces old new name before after × MakesCall hash_of before after c answer messages more
      → Makes hash_of hash old messages (At name c) answer new more
  call_made hash_of name c answer peer (before, after, replaces, called) w keeps =
      call_keeps hash old new messages more w keeps hash_of name before after replaces c answer (sym (peer w keeps)) called

  pub call_refused : (name : ℕ) (c : Call) (refusal : Refusal) → ((w : World) → Keeps hash old messages w → true ≡ has_peer w c)
      → (before : ReplicaValue Hash) × (get nat_cmp old name ≡ Some before) × IsRefused before c refusal → IsRefusedEvent hash old messages (At name c) refusal
  call_refused name c refusal peer (before, was, inl (none, unrefused)) w keeps =
      inl (
        none,
        call_unrefused w name c (sym (keeps.there name) ∙ ap is_some was) (sym (peer w keeps))
            (subst (λ r. RefusesNothing r c) (keeps.means name before was) unrefused),
      )
  call_refused name c refusal peer (before, was, inr refuses) w keeps =
      inr (inr (sym (keeps.there name) ∙ ap is_some was, inr (sym (peer w keeps), subst (λ r. Refuses r c refusal) (keeps.means name before was) refuses)))

  pub call_unmade : (name : ℕ) (c : Call) (refusal : Refusal) → ((w : World) → Keeps hash old messages w → true ≡ has_peer w c)
      → ((get nat_cmp old name ≡ None) × (refusal ≡ UnknownReplica))
      ⊎ ((before : ReplicaValue Hash) × (get nat_cmp old name ≡ Some before) × IsRefused before c refusal)
      → IsRefusedEvent hash old messages (At name c) refusal
  call_unmade name c refusal peer (inl (none, is)) w keeps = inr (inl (sym (keeps.there name) ∙ ap is_some none, is))
  call_unmade name c refusal peer (inr refused) w keeps = call_refused name c refusal peer refused w keeps

  pub stayed : (name : ℕ) → (before after : ReplicaValue Hash) × Replaces old new name before after × Stays before after → more ≡ messages
      → LeavesWorld hash old messages new more
  stayed name (before, after, replaces, stays) same w keeps = keeps_stayed hash old new messages more w keeps name before after replaces stays same

  pub left : (name : ℕ) → (new ≡ old) ⊎ ((before after : ReplicaValue Hash) × Replaces old new name before after × Stays before after) → more ≡ messages
      → LeavesWorld hash old messages new more
  left name (inl same) unposted w keeps = subst (λ r. Keeps hash r more w) (sym same) (subst (λ m. Keeps hash old m w) (sym unposted) keeps)
  left name (inr stays) unposted w keeps = stayed name stays unposted w keeps

  -- a delivery
  pub not_delivered : (number name : ℕ) → false ≡ is_some (get nat_cmp old name) → IsRefusedEvent hash old messages (Deliver number name) UnknownReplica
  not_delivered number name missing w keeps = inr (inl (sym (keeps.there name) ∙ sym missing, refl))

  pub not_sent : (number name : ℕ) → true ≡ is_some (get nat_cmp old name) → None ≡ cond (nat_lt 0 number) (slice_get messages (number - 1)) None
      → IsRefusedEvent hash old messages (Deliver number name) UnknownMessage
  not_sent number name found missing w keeps = inr (inr (sym (keeps.there name) ∙ sym found, no_message hash old messages w keeps number missing, refl))

  -- a delivery is refused for want of memory alone
  pub not_taken : (number name : ℕ) (bytes : List ℕ) (refusal : Refusal) → true ≡ is_some (get nat_cmp old name)
      → Some bytes ≡ cond (nat_lt 0 number) (slice_get messages (number - 1)) None
      → refusal ≡ OutOfMemory → IsRefusedEvent hash old messages (Deliver number name) refusal
  not_taken number name bytes refusal here found is w keeps =
      let m = found_message hash old messages w keeps number bytes found in
      inl (is, delivery_unrefused w number name m.0 (sym (keeps.there name) ∙ sym here) m.1)

  -- bytes that are a message are read, want of memory aside
  pub not_read : (number name : ℕ) (bytes : List ℕ) (refusal : Refusal) → true ≡ is_some (get nat_cmp old name)
      → Some bytes ≡ cond (nat_lt 0 number) (slice_get messages (number - 1)) None
      → ((mail : Mail) → IsSpelled bytes mail → refusal ≡ OutOfMemory) → IsRefusedEvent hash old messages (Deliver number name) refusal
  not_read number name bytes refusal here found read w keeps =
      let m = found_message hash old messages w keeps number bytes found in
      not_taken number name bytes refusal here found (read m.0.mail m.2) w keeps

  pub delivery_made : (hash_of : Hash → List ℕ → ℕ) (number name : ℕ) (bytes : List ℕ) (mail : Mail) (answer : Answer)
      → Some bytes ≡ cond (nat_lt 0 number) (slice_get messages (number - 1)) None
      → ((spelled : Mail) → IsSpelled bytes spelled → mail ≡ spelled)
      → (before after : ReplicaValue Hash) × Replaces old new name before after × TakesMail hash_of before after mail answer messages more
      → Makes hash_of hash old messages (Deliver number name) answer new more
  delivery_made hash_of number name bytes mail answer found read (before, after, replaces, took) w keeps =
      let m = found_message hash old messages w keeps number bytes found in
      take_keeps hash old new messages more w keeps hash_of name before after replaces number m.0 answer m.1
      (subst (λ x. TakesMail hash_of before after x answer messages more) (read m.0.mail m.2) took)

-- ---- what is told before an event happens

-- of a put at any place, and of an ask of any peer
module _ {A : Type 0} (r : Replica) (told : Option Refusal) {c : calls.Call A} where
  pub put_foretold : ((place : Place) (value : List ℕ) → Foretells r (step.Put place value) told) → {key field value : List ℕ} → c ≡ call.Put key field value
      → Foretells r (call_value c) told
  put_foretold all {key} {field} {value} is = subst (λ d. Foretells r (call_value d) told) (sym is) (all (place_of key field) value)

  pub ask_foretold : ((peer : ℕ) → Foretells r (step.Ask peer) told) → {peer : ℕ} → c ≡ call.Ask peer → Foretells r (call_value c) told
  ask_foretold all {peer} is = subst (λ d. Foretells r (call_value d) told) (sym is) (all peer)

module _ {Hash : Type 0} (hash : Hash) (old : BTreeMap ℕ (ReplicaValue Hash)) (messages : List (List ℕ)) where
  pub foretells_taken : (name : ℕ) → true ≡ is_some (get nat_cmp old name) → ForetellsEvent hash old messages (Node name) (Some NameTaken)
  foretells_taken name found w keeps = (sym (keeps.there name) ∙ sym found, refl)

  pub foretells_free : (name : ℕ) → false ≡ is_some (get nat_cmp old name) → ForetellsEvent hash old messages (Node name) None
  foretells_free name missing w keeps = node_unrefused w name (sym (keeps.there name) ∙ sym missing)

  pub foretells_no_replica : (name : ℕ) (c : Call) → false ≡ is_some (get nat_cmp old name) → ForetellsEvent hash old messages (At name c) (Some UnknownReplica)
  foretells_no_replica name c missing w keeps = inl (sym (keeps.there name) ∙ sym missing, refl)

  pub foretells_no_peer : (name : ℕ) (c : Call) → true ≡ is_some (get nat_cmp old name) → ((w : World) → Keeps hash old messages w → false ≡ has_peer w c)
      → ForetellsEvent hash old messages (At name c) (Some UnknownReplica)
  foretells_no_peer name c found missing w keeps = inr (sym (keeps.there name) ∙ sym found, inl (sym (missing w keeps), refl))

  pub foretells_call : (name : ℕ) (c : Call) (before : ReplicaValue Hash) (told : Option Refusal) → get nat_cmp old name ≡ Some before
      → ((w : World) → Keeps hash old messages w → true ≡ has_peer w c) → Foretells (meaning before) c told → ForetellsEvent hash old messages (At name c) told
  foretells_call name c before None was peer unrefused w keeps =
      call_unrefused w name c (sym (keeps.there name) ∙ ap is_some was) (sym (peer w keeps))
      (subst (λ r. RefusesNothing r c) (keeps.means name before was) unrefused)
  foretells_call name c before (Some refusal) was peer refuses w keeps =
      inr (sym (keeps.there name) ∙ ap is_some was, inr (sym (peer w keeps), subst (λ r. Refuses r c refusal) (keeps.means name before was) refuses))

  pub foretells_not_there : (number name : ℕ) → false ≡ is_some (get nat_cmp old name)
      → ForetellsEvent hash old messages (Deliver number name) (Some UnknownReplica)
  foretells_not_there number name missing w keeps = inl (sym (keeps.there name) ∙ sym missing, refl)

  pub foretells_not_sent : (number name : ℕ) → true ≡ is_some (get nat_cmp old name) → None ≡ cond (nat_lt 0 number) (slice_get messages (number - 1)) None
      → ForetellsEvent hash old messages (Deliver number name) (Some UnknownMessage)
  foretells_not_sent number name found missing w keeps = inr (sym (keeps.there name) ∙ sym found, no_message hash old messages w keeps number missing, refl)

  pub foretells_sent : (number name : ℕ) (bytes : List ℕ) → true ≡ is_some (get nat_cmp old name)
      → Some bytes ≡ cond (nat_lt 0 number) (slice_get messages (number - 1)) None
      → ForetellsEvent hash old messages (Deliver number name) None
  foretells_sent number name bytes here found w keeps =
      let m = found_message hash old messages w keeps number bytes found in
      delivery_unrefused w number name m.0 (sym (keeps.there name) ∙ sym here) m.1

-- a call that is no ask has no peer
pub no_peer_asked : {A : Type 0} (w : World) (c : calls.Call A) → ((peer : ℕ) → c ≡ call.Ask peer → ⊥) → true ≡ has_peer w (call_value c)
no_peer_asked w (call.Put key field value) no_ask = refl
no_peer_asked w (call.Remove key) no_ask = refl
no_peer_asked w (call.RemoveField key field) no_ask = refl
no_peer_asked w call.Clear no_ask = refl
no_peer_asked w call.Flush no_ask = refl
no_peer_asked w (call.Ask peer) no_ask = absurd (no_ask peer refl)
no_peer_asked w (call.Retry number) no_ask = refl
no_peer_asked w (call.Abandon number) no_ask = refl

-- where the entries are as they were
pub entries_stay : {Hash : Type 0} (hash : Hash) (old new : BTreeMap ℕ (ReplicaValue Hash)) (messages : List (List ℕ)) → new.entries ≡ old.entries
    → LeavesWorld hash old messages new messages
entries_stay hash old new messages same w keeps =
    let at = λ (name : ℕ). ap (lookup (is_at (nat_cmp name))) same in
    record {
      there = λ name. ap is_some (at name) ∙ keeps.there name;
      means = λ name r is. keeps.means name r (sym (at name) ∙ is);
      hashed = λ name r is. keeps.hashed name r (sym (at name) ∙ is);
      absent = keeps.absent;
      spelled = keeps.spelled;
    }

-- a world with nothing in it
pub world_begins : {Hash : Type 0} (hash_of : Hash → List ℕ → ℕ) (hash : Hash) (replicas : BTreeMap ℕ (ReplicaValue Hash)) → replicas.entries ≡ []
    → IsWorld hash_of hash replicas [] []
world_begins hash_of hash replicas empty =
    let none = λ (name : ℕ). ap (lookup (is_at (nat_cmp name))) empty in
    record {
      world = nothing;
      leads = refl;
      keeps = record {
        there = λ name. ap is_some (none name);
        means = λ name r is. absurd (none_some (sym (none name) ∙ is));
        hashed = λ name r is. absurd (none_some (sym (none name) ∙ is));
        absent = λ name no. refl;
        spelled = tt;
      };
    }
