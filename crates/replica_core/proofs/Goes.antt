-- A session at its place, after its turn: it goes on, or is closed.
use Rattle.std.proofs.Common.{◌≡◌, ◌+◌, ℕ, List, [], ◌++◌, false, Some, map, take, drop, set, sym, ap, ◌∙◌, subst}
use Rattle.std.proofs.lemmas.Bool.{false≢true}
use Rattle.std.specs.List.{slice_get, remove}
use Rattle.causal_context.specs.Context.{ContextValue, has}
use Rattle.delta_ops.specs.LiveMap.{live_state}
use Rattle.op_model.specs.Meaning.{MapState}
use Rattle.page_fetching.specs.Building.{BuiltValue}
use Rattle.sync_model.specs.Closing as closing
use Rattle.sync_model.specs.Closing.{IsBelow}
use Rattle.sync_model.specs.Differ.{Held}
use Rattle.sync_model.specs.Laws.{KnowsEachDot}
use Rattle.wire_form.specs.declared.message.Message.{Message}
use Rattle.wire_form.specs.Message.{MessageValue}
use Rattle.sync_protocol.specs.Asking.{AskerValue, StageValue, Complete, has_completed, asker_state}
use Rattle.sync_protocol.specs.Turning as turning
use Rattle.replica_model.specs.Delivery.{turn, Sent, Done, Ended}
use Rattle.replica_model.specs.Mail.{Mail, mail_of}
use Rattle.replica_model.specs.Replica.{Replica, joins, closes}
use Rattle.replica_model.proofs.Growing.{below_itself}
use Rattle.replica_core.specs.declared.outcome.Outcome.{Outcome}
use Rattle.replica_core.specs.Answered.{outcome_of}
use Rattle.replica_core.specs.Meaning.{ReplicaValue, hash_in, meaning}
use Rattle.replica_core.specs.Stepping.{mails_of}
use Rattle.replica_core.specs.Own.{IsOwn, IsReplica}
use Rattle.replica_core.specs.Turned.{turned}
use Rattle.replica_core.specs.Turning.{CanTake, IsWhole}
use Rattle.replica_core.proofs.Changing.{StaysBut, at_place, advanced_is, advanced_meaning, closed_is, closed_meaning}
use Rattle.replica_core.proofs.Turns.{base_below, closed_by, own_next, sent_turned}

-- what a complete stage says
whole_back : {Hash : Type 0} (stage : StageValue Hash) (c d : ContextValue) (b e : BuiltValue Hash) → stage ≡ Complete c b → stage ≡ Complete d e
    → (c ≡ d) × (b ≡ e)
whole_back stage c d b e first second = both (sym first ∙ second)
  where
    both : Complete c b ≡ Complete d e → (c ≡ d) × (b ≡ e)
    both is = (cc, cc)

module _ {Hash : Type 0} (hash_of : Hash → List ℕ → ℕ) (old new : ReplicaValue Hash) (is : IsReplica hash_of old) (rest : StaysBut old new) (place : ℕ)
    (a : AskerValue Hash) (there : slice_get old.sessions place ≡ Some a)
    (next : AskerValue Hash) (live : new.live.0 ≡ old.live.0) where
  own_at : IsOwn hash_of old.name (hash_in old) (live_state old.live.0) a
  own_at = at_place (IsOwn hash_of old.name (hash_in old) (live_state old.live.0)) old.sessions place a there is.own

  -- it goes on
  module _ (messages : List MessageValue) (can : CanTake hash_of a next (turning.Sent messages)) (sessions : new.sessions ≡ set old.sessions place next) where
    pub sent_is : IsReplica hash_of new
    sent_is = advanced_is hash_of old new is rest place a there next can.session sessions live
        (own_next hash_of old.name (hash_in old) (live_state old.live.0) a next own_at can.session can.goes_from can.gives)

    pub sent_taken : (out : List Mail) → out ≡ map mail_of messages → turned (meaning old) (asker_state next) (turning.Sent messages)
        ≡ turn (meaning new) Sent out
    sent_taken out said =
        sent_turned (meaning old) (meaning new) next messages (advanced_meaning hash_of old new is rest place a there next can.session sessions live)
        can.gives.is_open
        ∙ ap (turn (meaning new) Sent) (sym said)

  -- it is taken out
  module _ (sessions : new.sessions ≡ remove old.sessions place) where
    pub out_is : remove old.sessions place ≡ take place old.sessions ++ drop (place + 1) old.sessions → IsReplica hash_of new
    out_is parts =
        closed_is hash_of old new is rest place a there sessions parts
        (subst (λ p. IsBelow (live_state old.live.0) (live_state p)) (sym live) (below_itself (live_state old.live.0)))

    pub out_meaning : meaning new ≡ closes (meaning old) a.session
    out_meaning = closed_meaning hash_of old new is rest place a there sessions (live_state old.live.0) (ap live_state live)

    pub gone_taken : next.session ≡ a.session → turned (meaning old) (asker_state next) turning.IsGone ≡ turn (meaning new) Ended []
    gone_taken session = ap (λ r. turn r Ended []) (ap (closes (meaning old)) session ∙ sym out_meaning)

-- ---- what a session built is joined in, and it is taken out

module _ {Hash : Type 0} (hash_of : Hash → List ℕ → ℕ) (name : ℕ) (hash : Hash) (live : MapState) (a : AskerValue Hash) (own : IsOwn hash_of name hash live a)
    (next : AskerValue Hash) (can : CanTake hash_of a next turning.Done) where
  -- its base is below what the replica holds
  pub base_is_below : (base : Held) (seen : ContextValue) → base ≡ next.own → seen ≡ next.seen → IsBelow (closing.held_state base (has seen)) live
  base_is_below base seen same known =
      let B : Held → ContextValue → Type 0 = λ m c. IsBelow (closing.held_state m (has c)) live in
      subst (λ m. B m seen) (sym same) (subst (B next.own) (sym known) (base_below hash_of name hash live a next own can.goes_from))

  pub built_known : (c : ContextValue) (b : BuiltValue Hash) → next.stage ≡ Complete c b → KnowsEachDot (has c) b.entries
  built_known c b complete =
      let whole : IsWhole hash_of next = can.gives in
      let same = whole_back next.stage whole.context c whole.built b whole.complete complete in
      subst (λ k. KnowsEachDot (has k) b.entries) same.0 (subst (λ x. KnowsEachDot (has whole.context) x.entries) same.1 whole.known)

  -- one that is not complete is not whole
  pub not_whole : has_completed next.stage ≡ false → ⊥
  not_whole unended = let whole : IsWhole hash_of next = can.gives in false≢true (sym unended ∙ ap has_completed whole.complete)

  -- by whichever parts of a complete session it is told
  pub joined_as : (r m : Replica) (d : ContextValue) (e : BuiltValue Hash) → next.stage ≡ Complete d e → m ≡ joins r (closing.held_state e.entries (has d))
      → (c : ContextValue) (b : BuiltValue Hash) → next.stage ≡ Complete c b → m ≡ joins r (closing.held_state b.entries (has c))
  joined_as r m d e first is c b second =
      let same = whole_back next.stage d c e b first second in is ∙ (λ i. joins r (closing.held_state (same.1 i).entries (has (same.0 i))))

  pub done_taken : (r mid new : Replica) → ((c : ContextValue) (b : BuiltValue Hash) → next.stage ≡ Complete c b
      → mid ≡ joins r (closing.held_state b.entries (has c))) → new ≡ closes mid a.session
      → turned r (asker_state next) turning.Done ≡ turn new Done []
  done_taken r mid new joined closed =
      let whole : IsWhole hash_of next = can.gives in
      let c = whole.context in
      let b = whole.built in
      ap (λ x. turn x Done [])
      (closed_by r next c b whole.complete ∙ ap (closes (joins r (closing.held_state b.entries (has c)))) can.session
      ∙ ap (λ x. closes x a.session) (sym (joined c b whole.complete)) ∙ sym closed)

-- what was told without a reply
pub silent_turn : {A : Type 0} (r : Replica) (outcome kind : Outcome) (replies : List (Message A)) → outcome ≡ kind → replies ≡ []
    → turn r (outcome_of kind) [] ≡ turn r (outcome_of outcome) (mails_of replies)
silent_turn r outcome kind replies is none = λ i. turn r (outcome_of (sym is i)) (mails_of (sym none i))
