-- What an ask, a retry and the end of a session are to the model.
use Rattle.std.proofs.Common.{◌≡◌, ◌<◌, ◌≤◌, ◌+◌, ◌^◌, ℕ, List, [], ◌∷◌, Bool, true, false, Some, None, inl, inr, length, map, not, refl, sym, ap, ◌∙◌, subst}
use Rattle.std.proofs.Common.{arith}
use Rattle.std.specs.Prelude.{◌==◌}
use Rattle.std.proofs.lemmas.List.{length-map}
use Rattle.causal_context.specs.Context.{has}
use Rattle.prefix_digest.specs.MapOf.{IsMapOf}
use Rattle.wire_form.specs.declared.message.Message.{Message}
use Rattle.wire_form.specs.Message.{MessageValue, Hello, message_of}
use Rattle.wire_form.specs.Session.{SessionValue}
use Rattle.sync_protocol.specs.Asking.{AskerValue, stage_with}
use Rattle.sync_protocol.specs.Turning as turning
use Rattle.dots.specs.declared.refusal.Refusal.{Refusal}
use Rattle.dots.specs.declared.refusal.Refusal.TheVariants.{OutOfMemory, NumbersSpent, SessionsFull}
use Rattle.replica_model.specs.Delivery.{Sent, Ignored}
use Rattle.replica_model.specs.Mail.{mail_of}
use Rattle.replica_model.specs.Replica.{next_session, opens, closes, open_numbered}
use Rattle.replica_model.specs.Step.{Act, Do, Ask, Retry, Abandon, Numbered, Came, Closed, Refuses, retried, Abandons}
use Rattle.replica_core.specs.declared.outcome.Outcome.{Outcome}
use Rattle.replica_core.specs.Answered.{outcome_of}
use Rattle.replica_core.specs.Meaning.{ReplicaValue, hash_in, open_of, meaning, waiting_in}
use Rattle.replica_core.specs.Own.{IsOwn, IsReplica}
use Rattle.replica_core.specs.Stepping.{RefusesNothing, Steps, IsRefused, mails_of}
use Rattle.replica_core.specs.Tied.{IsFirstAt, NoneIs}
use Rattle.replica_core.proofs.Changing.{at_place}
use Rattle.replica_core.proofs.Tied.{again_tied}
use Rattle.replica_core.proofs.TiedLists.{numbered_tied, none_numbered_tied}

-- messages are mails by what they say
pub mails_are : {A : Type 0} (ms : List (Message A)) → mails_of ms ≡ map mail_of (map message_of ms)
mails_are [] = refl
mails_are (m ∷ ms) = ap (λ xs. mail_of (message_of m) ∷ xs) (mails_are ms)

-- what is told by a kind of outcome and its replies
module _ {Hash A : Type 0} (hash_of : Hash → List ℕ → ℕ) (old new : ReplicaValue Hash) (act : Act) (outcome kind : Outcome) (replies : List (Message A))
    (is : outcome ≡ kind) where
  pub told_by : replies ≡ [] → Steps hash_of old new act (Came (outcome_of kind)) [] → Steps hash_of old new act (Came (outcome_of outcome)) (mails_of replies)
  told_by none steps = subst (λ o. Steps hash_of old new act (Came (outcome_of o)) (mails_of replies)) (sym is)
      (subst (λ ms. Steps hash_of old new act (Came (outcome_of kind)) (mails_of ms)) (sym none) steps)

  pub answered_by : (reply : Message A) → replies ≡ reply ∷ [] → Steps hash_of old new act (Came (outcome_of kind)) (mail_of (message_of reply) ∷ [])
      → Steps hash_of old new act (Came (outcome_of outcome)) (mails_of replies)
  answered_by reply one steps =
      subst (λ o. Steps hash_of old new act (Came (outcome_of o)) (mails_of replies)) (sym is)
      (subst (λ ms. Steps hash_of old new act (Came (outcome_of kind)) (mails_of ms)) (sym one) steps)

module _ {Hash : Type 0} (old : ReplicaValue Hash) (peer : ℕ) where
  pub full_refused : 8 ≤ length old.sessions → IsRefused old (Ask peer) SessionsFull
  full_refused full = inr (inl (subst (λ n. 8 ≤ n) (sym (length-map old.sessions open_of)) full, refl))

  pub ask_spent : length old.sessions < 8 → 2 ^ 64 ≤ old.opened + 1 → Refuses (meaning old) (Ask peer) NumbersSpent
  ask_spent few spent = inr (subst (λ n. n < 8) (sym (length-map old.sessions open_of)) few, spent, refl)

  pub spent_refused : length old.sessions < 8 → 2 ^ 64 ≤ old.opened + 1 → IsRefused old (Ask peer) NumbersSpent
  spent_refused few spent = inr (ask_spent few spent)

  -- where fewer than eight are open and a number is left
  pub ask_not_refused : length old.sessions < 8 → old.opened + 1 < 2 ^ 64 → RefusesNothing (meaning old) (Ask peer)
  ask_not_refused few left = λ refusal refuses. none refusal refuses
    where
      none : (refusal : Refusal) → Refuses (meaning old) (Ask peer) refusal → ⊥
      none refusal (inl (full, is)) = absurd (omega (arith, few, full, length-map old.sessions open_of))
      none refusal (inr (also, spent, is)) = absurd (omega (arith, left, spent))

  pub ask_without_memory : (refusal : Refusal) → refusal ≡ OutOfMemory → length old.sessions < 8 → old.opened + 1 < 2 ^ 64 → IsRefused old (Ask peer) refusal
  ask_without_memory refusal is few left = inl (is, ask_not_refused few left)

module _ {Hash : Type 0} (hash_of : Hash → List ℕ → ℕ) (old new : ReplicaValue Hash) (peer : ℕ) (session : SessionValue)
    (next : session ≡ next_session (meaning old) peer) where
  pub asked_stepped : (hello : MessageValue) → session.number + 1 ≤ 2 ^ 64 → length old.sessions < 8 → IsMapOf old.live.0.0.1 (meaning old).live
      → meaning new ≡ opens (meaning old) session.answerer old.live.0.0.1 → hello ≡ Hello session old.live.0.1
      → waiting_in new ≡ waiting_in old → hash_in new ≡ hash_in old
      → Steps hash_of old new (Do (Ask peer)) (Numbered session.number) (mail_of hello ∷ [])
  asked_stepped hello left few mapped means said waiting hash =
      let number : session.number ≡ old.opened + 1 = ap (λ (s : SessionValue). s.number) next in
      record {
        step = (
          old.live.0.0.1,
          mapped,
          subst (λ n. n < 8) (sym (length-map old.sessions open_of)) few,
          omega (arith, left, number),
          means ∙ ap (λ (s : SessionValue). opens (meaning old) s.answerer old.live.0.0.1) next,
          ap Numbered number,
          ap (λ m. mail_of m ∷ []) said ∙ ap (λ s. Rattle.replica_model.specs.Mail.Hello s (has old.live.0.1) ∷ []) next,
        );
        waits = waiting;
        hash = hash;
      }

module _ {Hash : Type 0} (hash_of : Hash → List ℕ → ℕ) (old : ReplicaValue Hash) (number : ℕ) where
  -- where none has the number
  module _ (missing : NoneIs (λ b. b.session.number == number) old.sessions) where
    none : open_numbered (meaning old).sessions number ≡ None
    none = none_numbered_tied old.sessions number missing

    pub retry_missed : Steps hash_of old old (Do (Retry number)) (Came Ignored) []
    retry_missed = record {
      step = (refl, ap (λ o. Came (retried (meaning old) o).outcome) (sym none), ap (λ o. (retried (meaning old) o).replies) (sym none));
      waits = refl;
      hash = refl;
    }

    pub abandon_missed : Steps hash_of old old (Do (Abandon number)) (Closed false) []
    abandon_missed = record { step = (subst (λ o. Abandons (meaning old) o (meaning old) (Closed false)) (sym none) (refl, refl), refl); waits = refl; hash = refl }

  -- and where one has
  module _ (place : ℕ) (a : AskerValue Hash) (first : IsFirstAt (λ b. b.session.number == number) old.sessions place a) where
    found : open_numbered (meaning old).sessions number ≡ Some (open_of a)
    found = numbered_tied old.sessions number place a first

    pub retry_found : {A : Type 0} (messages : List (Message A)) → IsReplica hash_of old
        → map message_of messages ≡ turning.again a.session (stage_with a.own a.seen a.stage)
        → Steps hash_of old old (Do (Retry number)) (Came Sent) (mails_of messages)
    retry_found messages is said =
        let own = at_place (IsOwn hash_of old.name (hash_in old) (meaning old).live) old.sessions place a first.0 is.own in
        record {
          step = (
            refl,
            ap (λ o. Came (retried (meaning old) o).outcome) (sym found),
            mails_are messages ∙ ap (map mail_of) said ∙ sym (again_tied a own.is_open) ∙ ap (λ o. (retried (meaning old) o).replies) (sym found),
          );
          waits = refl;
          hash = refl;
        }

    pub abandon_found : (new : ReplicaValue Hash) → meaning new ≡ closes (meaning old) a.session → waiting_in new ≡ waiting_in old → hash_in new ≡ hash_in old
        → Steps hash_of old new (Do (Abandon number)) (Closed true) []
    abandon_found new means waiting hash = record {
      step = (subst (λ o. Abandons (meaning old) o (meaning new) (Closed true)) (sym found) (means, refl), refl);
      waits = waiting;
      hash = hash;
    }

-- whether a session is for this replica, as a comparison of names tells it
not_true : (b : Bool) → not b ≡ true → b ≡ false
not_true true e = absurd cc
not_true false e = refl

not_false : (b : Bool) → not b ≡ false → b ≡ true
not_false true e = refl
not_false false e = absurd cc

module _ (n m name : ℕ) (is : n ≡ m) (b : Bool) (told : b ≡ not (n == name)) where
  pub is_away : b ≡ true → (m == name) ≡ false
  is_away e = ap (λ x. x == name) (sym is) ∙ not_true (n == name) (sym told ∙ e)

  pub is_here : b ≡ false → (m == name) ≡ true
  is_here e = ap (λ x. x == name) (sym is) ∙ not_false (n == name) (sym told ∙ e)
