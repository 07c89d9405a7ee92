-- A delta that brings what the end of an own session joins in.
use Rattle.std.proofs.Common.{◌≡◌, inl, inr, ℕ, List, [], true, Option, IfSome, cond, sym, ap, ◌∙◌, subst}
use Rattle.std.specs.Prelude.{◌==◌}
use Rattle.std.proofs.lemmas.Bool.{eq-eqb}
use Rattle.std.proofs.lemmas.Option.{IfSome_then}
use Rattle.causal_context.specs.Context.{ContextValue, has}
use Rattle.causal_join.specs.Causal.{state_of}
use Rattle.causal_join.specs.OrMap.{FieldsValue, OrMapValue, fields_at, or_map_at, or_map_state, path_of}
use Rattle.delta_ops.specs.LiveMap.{live_state}
use Rattle.delta_ops.proofs.AsOrMap.{as_entries}
use Rattle.dot_store.specs.Stores.{held_by}
use Rattle.live_map.specs.Live.{PairValue}
use Rattle.op_model.specs.Meaning.{MapState, greater}
use Rattle.op_model.specs.State.{Same, join, joined}
use Rattle.replica_model.proofs.Found.{same_is_one}
use Rattle.replica_model.proofs.States.{same_is}
use Rattle.sync_model.specs.Closing as closing
use Rattle.sync_model.specs.Differ.{Held}
use Rattle.trie_map.specs.Keyed.{at_keys}
use Rattle.wire_form.specs.Message.{MessageValue, Opening, Page}
use Rattle.wire_form.specs.Sent.{SentValue}
use Rattle.wire_form.specs.Session.{SessionValue, same_session}
use Rattle.sync_protocol.specs.Asking.{AskerState, AskerValue, IsFrom, stage_with, asker_state}
use Rattle.sync_protocol.specs.Turning as turning
use Rattle.sync_protocol.specs.Turning.{StepValue, StateAndStep}
use Rattle.replica_model.specs.Delivery as model
use Rattle.replica_model.specs.Delivery.{Turn, turn, ignored, taken, took_opening, took_page, delivered}
use Rattle.replica_model.specs.Mail as mail
use Rattle.replica_model.specs.Mail.{Mail, mail_of}
use Rattle.replica_model.specs.Replica.{Replica}
use Rattle.replica_core.specs.Bringing.{Brings, IsClosing}
use Rattle.replica_core.specs.Meaning.{ReplicaValue, hash_in, meaning}
use Rattle.replica_core.specs.Own.{IsOwn, IsReplica}
use Rattle.replica_core.specs.Tied.{IsFirstAt}
use Rattle.replica_core.specs.Turned.{turned, closed_with}
use Rattle.replica_core.specs.Turning.{IsShown, answered}
use Rattle.replica_core.proofs.Gained.{outcome}
use Rattle.replica_core.proofs.Takes.{own_at, opening_is, page_is, as_opening, as_page}
use Rattle.replica_core.proofs.Tied.{opening_tied, page_tied}
use Rattle.replica_core.proofs.TiedLists.{found_tied}

-- what the turn of a session brings is brought by the delivery that it is
brought_by : (hash_of : List ℕ → ℕ) (r : Replica) (m : Mail) (state : AskerState) (step : StepValue) (delta : MapState)
    → ((own : Held) → delivered hash_of own r m ≡ turned r state step) → IsClosing r state step delta → Brings hash_of r m delta
brought_by hash_of r m state step delta turns is new o out (own, mapped, came) =
    let same : turned r state step ≡ turn new o out = sym (turns own) ∙ came in
    let closed : turn (closed_with r state.session state.stage) model.Done [] ≡ turn new o out = subst (λ x. turned r state x ≡ turn new o out) is.done same in
    (sym (ap (λ (t : Turn). t.outcome) closed), sym (ap (λ (t : Turn). t.new.live) closed) ∙ is.live)

module _ {Hash : Type 0} (hash_of : Hash → List ℕ → ℕ) (old : ReplicaValue Hash) (s : SessionValue) (place : ℕ) (a : AskerValue Hash)
    (first : IsFirstAt (λ b. same_session b.session s) old.sessions place a) (is_own : IsOwn hash_of old.name (hash_in old) (live_state old.live.0) a)
    (t : StateAndStep) where
  for_asker : (s.asker == old.name) ≡ true
  for_asker = eq-eqb s.asker old.name (ap (λ (x : SessionValue). x.asker) (sym (same_is_one a.session s first.1)) ∙ is_own.asker)

  opening_turns : (own : Held) (context : ContextValue) (root : Option (List ℕ))
      → t ≡ turning.opening_at (hash_of (hash_in old)) a.session (stage_with a.own a.seen a.stage) context root
      → delivered (hash_of (hash_in old)) own (meaning old) (mail.Opening s (has context) root) ≡ turned (meaning old) t.0 t.1
  opening_turns own context root is =
      ap (λ b. cond b (taken (hash_of (hash_in old)) own (meaning old) (mail.Opening s (has context) root)) (ignored (meaning old))) for_asker
      ∙ ap (took_opening (hash_of (hash_in old)) (meaning old) (has context) root) (found_tied old.sessions s place a first)
      ∙ opening_tied (hash_of (hash_in old)) (meaning old) a is_own.is_open context root t is

  page_turns : (own : Held) (sent : SentValue) → t ≡ turning.page_at_stage (hash_of (hash_in old)) a.session (stage_with a.own a.seen a.stage) sent
      → delivered (hash_of (hash_in old)) own (meaning old) (mail.Page s sent) ≡ turned (meaning old) t.0 t.1
  page_turns own sent is =
      ap (λ b. cond b (taken (hash_of (hash_in old)) own (meaning old) (mail.Page s sent)) (ignored (meaning old))) for_asker
      ∙ ap (took_page (hash_of (hash_in old)) (meaning old) sent) (found_tied old.sessions s place a first)
      ∙ page_tied (hash_of (hash_in old)) (meaning old) a is_own.is_open sent t is

module _ {Hash : Type 0} (hash_of : Hash → List ℕ → ℕ) (old : ReplicaValue Hash) (is : IsReplica hash_of old) (s : SessionValue) (place : ℕ)
    (a : AskerValue Hash)
    (first : IsFirstAt (λ b. same_session b.session s) old.sessions place a) (next : AskerValue Hash) (step : StepValue) (goes_from : IsFrom a next)
    (message : MessageValue) (found : Option OrMapValue)
    (closing : IfSome found (λ delta. IsClosing (meaning old) (asker_state next) step (or_map_state delta))) where
  pub opening_brings : (context : ContextValue) (root : Option (List ℕ)) → message ≡ Opening s context root
      → outcome (asker_state next) step ≡ turning.on_opening (hash_of a.hash) (asker_state a) message
      → IfSome found (λ delta. Brings (hash_of (hash_in old)) (meaning old) (mail_of message) (or_map_state delta))
  opening_brings context root said told =
      let here = own_at hash_of old is s place a first next step goes_from message in
      let at = opening_is hash_of old is s place a first next step goes_from message context root said told
      ∙ ap (λ h. turning.opening_at (hash_of h) a.session (stage_with a.own a.seen a.stage) context root) here.hash_is in
      IfSome_then found closing (λ delta. brought_by (hash_of (hash_in old)) (meaning old) (mail_of message) (asker_state next) step (or_map_state delta)
      (λ own. subst (λ m. delivered (hash_of (hash_in old)) own (meaning old) (mail_of m) ≡ turned (meaning old) (asker_state next) step) (sym said)
      (opening_turns hash_of old s place a first here (outcome (asker_state next) step) own context root at)))

  pub page_brings : (sent : SentValue) → message ≡ Page s sent
      → outcome (asker_state next) step ≡ turning.on_page (hash_of a.hash) (asker_state a) message
      → IfSome found (λ delta. Brings (hash_of (hash_in old)) (meaning old) (mail_of message) (or_map_state delta))
  page_brings sent said told =
      let here = own_at hash_of old is s place a first next step goes_from message in
      let at = page_is hash_of old is s place a first next step goes_from message (inl (sent, said)) told sent said
      ∙ ap (λ h. turning.page_at_stage (hash_of h) a.session (stage_with a.own a.seen a.stage) sent) here.hash_is in
      IfSome_then found closing (λ delta. brought_by (hash_of (hash_in old)) (meaning old) (mail_of message) (asker_state next) step (or_map_state delta)
      (λ own. subst (λ m. delivered (hash_of (hash_in old)) own (meaning old) (mail_of m) ≡ turned (meaning old) (asker_state next) step) (sym said)
      (page_turns hash_of old s place a first here (outcome (asker_state next) step) own sent at)))

  pub answer_brings : IsShown s message → outcome (asker_state next) step ≡ answered (hash_of a.hash) (asker_state a) message
      → IfSome found (λ delta. Brings (hash_of (hash_in old)) (meaning old) (mail_of message) (or_map_state delta))
  answer_brings (inl (context, root, e)) told =
      opening_brings context root e (as_opening hash_of old is s place a first next step goes_from message told context root e)
  answer_brings (inr (sent, e)) told = page_brings sent e (as_page hash_of old is s place a first next step goes_from message told sent e)

-- a delta that brings to the pair what the built map does brings it to what the pair stands for
module _ {Hash : Type 0} (hash : Hash) (live : PairValue Hash FieldsValue) (m : Held) (context : ContextValue) (delta : OrMapValue) where
  pub delta_joined : Same (join greater (state_of (at_keys fields_at) live) (state_of or_map_at delta))
      (join greater (state_of (at_keys fields_at) live) (state_of (at_keys fields_at) ((hash, m), context)))
      → join greater (live_state live) (closing.held_state m (has context)) ≡ join greater (live_state live) (or_map_state delta)
  unfolding at_keys
  delta_joined same =
      same_is (join greater (live_state live) (closing.held_state m (has context))) (join greater (live_state live) (or_map_state delta)) (record {
        at = λ place dot.
            ap (λ own. joined greater own (has live.1 dot) (held_by fields_at (Rattle.std.specs.FinMap.get m place.key) (place.field, tt) dot)
            (has context dot))
            (as_entries live.0 (path_of place) dot)
            ∙ sym (same.at (path_of place) dot)
            ∙ ap (λ own. joined greater own (has live.1 dot) (or_map_at delta.0 (path_of place) dot) (has delta.1 dot))
            (sym (as_entries live.0 (path_of place) dot));
        has = λ dot. sym (same.has dot);
      })
