-- What a message of a session comes to, once the session was found that it is of.
use Rattle.std.proofs.Common.{◌≡◌, ◌⊎◌, inl, inr, ℕ, List, [], Option, cond, sym, ap, ◌∙◌, subst}
use Rattle.causal_context.specs.Context.{ContextValue}
use Rattle.delta_ops.specs.LiveMap.{live_state}
use Rattle.prefix_digest.specs.MapOf.{IsMapOf}
use Rattle.wire_form.specs.Message.{MessageValue, Opening, Page, Gone}
use Rattle.wire_form.specs.Sent.{SentValue}
use Rattle.wire_form.specs.Session.{SessionValue, same_session}
use Rattle.sync_protocol.specs.Asking.{AskerValue, IsFrom, stage_with, asker_state}
use Rattle.sync_protocol.specs.Turning as turning
use Rattle.sync_protocol.specs.Turning.{StepValue, Ignored, opening_at, page_at_stage, gone_at}
use Rattle.replica_model.specs.Delivery as model
use Rattle.replica_model.specs.Delivery.{turn}
use Rattle.replica_model.specs.Mail.{Mail, mail_of}
use Rattle.replica_model.specs.Step.{Take, Came}
use Rattle.replica_core.specs.Meaning.{ReplicaValue, hash_in, meaning, waiting_in}
use Rattle.replica_core.specs.Own.{IsOwn, IsReplica, KnowsBuilt}
use Rattle.replica_core.specs.Stepping.{Steps}
use Rattle.replica_core.specs.Tied.{IsFirstAt, NoneIs}
use Rattle.replica_core.specs.Turned.{turned}
use Rattle.replica_core.specs.Turning.{CanTake, IsAnswer, answered}
use Rattle.replica_core.proofs.Changing.{at_place}
use Rattle.replica_core.proofs.Came.{opening_came, page_came, gone_came, opening_missed, page_missed, gone_missed}
use Rattle.replica_core.proofs.Gained.{outcome, opening_gives, page_gives, gone_gives}

module _ {Hash : Type 0} (hash_of : Hash → List ℕ → ℕ) (old : ReplicaValue Hash) (is : IsReplica hash_of old) (s : SessionValue) (place : ℕ)
    (a : AskerValue Hash)
    (first : IsFirstAt (λ b. same_session b.session s) old.sessions place a) (next : AskerValue Hash) (step : StepValue) (goes_from : IsFrom a next)
    (message : MessageValue) where
  pub own_at : IsOwn hash_of old.name (hash_in old) (live_state old.live.0) a
  own_at = at_place (IsOwn hash_of old.name (hash_in old) (live_state old.live.0)) old.sessions place a first.0 is.own

  -- an opening
  module _ (context : ContextValue) (root : Option (List ℕ)) (said : message ≡ Opening s context root)
      (told : outcome (asker_state next) step ≡ turning.on_opening (hash_of a.hash) (asker_state a) message) where
    pub opening_is : outcome (asker_state next) step ≡ opening_at (hash_of a.hash) a.session (stage_with a.own a.seen a.stage) context root
    opening_is =
        told ∙ ap (turning.on_opening (hash_of a.hash) (asker_state a)) said
        ∙ ap (λ b. cond b (opening_at (hash_of a.hash) a.session (stage_with a.own a.seen a.stage) context root) (outcome (asker_state a) Ignored)) first.1

    pub opening_can : CanTake hash_of a next step
    opening_can = opening_gives hash_of a next goes_from step context root own_at.is_open opening_is

    pub opening_stepped : IsMapOf old.live.0.0.1 (live_state old.live.0) → (new : ReplicaValue Hash) (o : model.Outcome) (out : List Mail)
        → turned (meaning old) (asker_state next) step ≡ turn (meaning new) o out
        → waiting_in new ≡ waiting_in old → hash_in new ≡ hash_in old → Steps hash_of old new (Take (mail_of message)) (Came o) out
    opening_stepped mapped new o out came waiting hash =
        subst (λ m. Steps hash_of old new (Take (mail_of m)) (Came o) out) (sym said)
        (opening_came hash_of old mapped new s place a first own_at.asker own_at.is_open (outcome (asker_state next) step) o out came waiting hash context root
        (opening_is ∙ ap (λ h. opening_at (hash_of h) a.session (stage_with a.own a.seen a.stage) context root) own_at.hash_is))

  -- a page, or that the session is not kept
  module _ (said : ((sent : SentValue) × (message ≡ Page s sent)) ⊎ (message ≡ Gone s))
      (told : outcome (asker_state next) step ≡ turning.on_page (hash_of a.hash) (asker_state a) message) where
    pub page_is : (sent : SentValue) → message ≡ Page s sent → outcome (asker_state next) step
        ≡ page_at_stage (hash_of a.hash) a.session (stage_with a.own a.seen a.stage) sent
    page_is sent e =
        told ∙ ap (turning.on_page (hash_of a.hash) (asker_state a)) e
        ∙ ap (λ b. cond b (page_at_stage (hash_of a.hash) a.session (stage_with a.own a.seen a.stage) sent) (outcome (asker_state a) Ignored)) first.1

    gone_is : message ≡ Gone s → outcome (asker_state next) step ≡ gone_at a.session (stage_with a.own a.seen a.stage)
    gone_is e =
        told ∙ ap (turning.on_page (hash_of a.hash) (asker_state a)) e
        ∙ ap (λ b. cond b (gone_at a.session (stage_with a.own a.seen a.stage)) (outcome (asker_state a) Ignored)) first.1

    pub page_can : CanTake hash_of a next step
    page_can = either said
      where
        either : ((sent : SentValue) × (message ≡ Page s sent)) ⊎ (message ≡ Gone s) → CanTake hash_of a next step
        either (inl (sent, e)) =
            page_gives hash_of a next goes_from step sent (subst (λ h. KnowsBuilt hash_of h a.own a.stage) (sym own_at.hash_is) own_at.built) (page_is sent e)
        either (inr e) = gone_gives hash_of a next goes_from step (gone_is e)

    pub page_stepped : IsMapOf old.live.0.0.1 (live_state old.live.0) → (new : ReplicaValue Hash) (o : model.Outcome) (out : List Mail)
        → turned (meaning old) (asker_state next) step ≡ turn (meaning new) o out
        → waiting_in new ≡ waiting_in old → hash_in new ≡ hash_in old → Steps hash_of old new (Take (mail_of message)) (Came o) out
    page_stepped mapped new o out came waiting hash = either said
      where
        either : ((sent : SentValue) × (message ≡ Page s sent)) ⊎ (message ≡ Gone s) → Steps hash_of old new (Take (mail_of message)) (Came o) out
        either (inl (sent, e)) =
            subst (λ m. Steps hash_of old new (Take (mail_of m)) (Came o) out) (sym e)
            (page_came hash_of old mapped new s place a first own_at.asker own_at.is_open (outcome (asker_state next) step) o out came waiting hash sent
            (page_is sent e ∙ ap (λ h. page_at_stage (hash_of h) a.session (stage_with a.own a.seen a.stage) sent) own_at.hash_is))
        either (inr e) =
            subst (λ m. Steps hash_of old new (Take (mail_of m)) (Came o) out) (sym e)
            (gone_came hash_of old mapped new s place a first own_at.asker own_at.is_open (outcome (asker_state next) step) o out came waiting hash (gone_is e))

  -- any of these
  module _ (told : outcome (asker_state next) step ≡ answered (hash_of a.hash) (asker_state a) message) where
    pub as_opening : (context : ContextValue) (root : Option (List ℕ)) → message ≡ Opening s context root
        → outcome (asker_state next) step ≡ turning.on_opening (hash_of a.hash) (asker_state a) message
    as_opening context root e = told ∙ ap (answered (hash_of a.hash) (asker_state a)) e ∙ sym (ap (turning.on_opening (hash_of a.hash) (asker_state a)) e)

    pub as_page : (sent : SentValue) → message ≡ Page s sent → outcome (asker_state next) step ≡ turning.on_page (hash_of a.hash) (asker_state a) message
    as_page sent e = told ∙ ap (answered (hash_of a.hash) (asker_state a)) e ∙ sym (ap (turning.on_page (hash_of a.hash) (asker_state a)) e)

    as_gone : message ≡ Gone s → outcome (asker_state next) step ≡ turning.on_page (hash_of a.hash) (asker_state a) message
    as_gone e = told ∙ ap (answered (hash_of a.hash) (asker_state a)) e ∙ sym (ap (turning.on_page (hash_of a.hash) (asker_state a)) e)

    pub answer_can : IsAnswer s message → CanTake hash_of a next step
    answer_can (inl (inl (context, root, e))) = opening_can context root e (as_opening context root e)
    answer_can (inl (inr (sent, e))) = page_can (inl (sent, e)) (as_page sent e)
    answer_can (inr e) = page_can (inr e) (as_gone e)

    pub answer_stepped : IsAnswer s message → IsMapOf old.live.0.0.1 (live_state old.live.0) → (new : ReplicaValue Hash) (o : model.Outcome) (out : List Mail)
        → turned (meaning old) (asker_state next) step ≡ turn (meaning new) o out
        → waiting_in new ≡ waiting_in old → hash_in new ≡ hash_in old → Steps hash_of old new (Take (mail_of message)) (Came o) out
    answer_stepped (inl (inl (context, root, e))) = opening_stepped context root e (as_opening context root e)
    answer_stepped (inl (inr (sent, e))) = page_stepped (inl (sent, e)) (as_page sent e)
    answer_stepped (inr e) = page_stepped (inr e) (as_gone e)

-- where there is no such session
module _ {Hash : Type 0} (hash_of : Hash → List ℕ → ℕ) (old : ReplicaValue Hash) (mapped : IsMapOf old.live.0.0.1 (live_state old.live.0)) (s : SessionValue)
    (missing : NoneIs (λ b. same_session b.session s) old.sessions)
    (message : MessageValue) where
  pub no_opening : (context : ContextValue) (root : Option (List ℕ)) → message ≡ Opening s context root
      → Steps hash_of old old (Take (mail_of message)) (Came model.Ignored) []
  no_opening context root e = subst (λ m. Steps hash_of old old (Take (mail_of m)) (Came model.Ignored) []) (sym e)
      (opening_missed hash_of old mapped s missing context root)

  pub no_page : (((sent : SentValue) × (message ≡ Page s sent)) ⊎ (message ≡ Gone s)) → Steps hash_of old old (Take (mail_of message)) (Came model.Ignored) []
  no_page (inl (sent, e)) = subst (λ m. Steps hash_of old old (Take (mail_of m)) (Came model.Ignored) []) (sym e)
      (page_missed hash_of old mapped s missing sent)
  no_page (inr e) = subst (λ m. Steps hash_of old old (Take (mail_of m)) (Came model.Ignored) []) (sym e) (gone_missed hash_of old mapped s missing)

  pub no_answer : IsAnswer s message → Steps hash_of old old (Take (mail_of message)) (Came model.Ignored) []
  no_answer (inl (inl (context, root, e))) = no_opening context root e
  no_answer (inl (inr (sent, e))) = no_page (inl (sent, e))
  no_answer (inr e) = no_page (inr e)
