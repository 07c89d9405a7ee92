-- What a delivery comes to, row by row.
use Rattle.std.proofs.Common.{◌≡◌, ℕ, List, [], ◌∷◌, Bool, true, false, Option, Some, None, cond, map, refl, sym, ap, ◌∙◌}
use Rattle.std.specs.Prelude.{◌==◌}
use Rattle.std.proofs.lemmas.Bool.{eq-eqb}
use Rattle.causal_context.specs.Context.{ContextValue, has}
use Rattle.delta_ops.specs.LiveMap.{live_state}
use Rattle.op_model.specs.Meaning.{MapState}
use Rattle.prefix_digest.specs.MapOf.{IsMapOf}
use Rattle.wire_form.specs.Message.{MessageValue}
use Rattle.wire_form.specs.Sent.{SentValue}
use Rattle.wire_form.specs.Session.{SessionValue, same_session}
use Rattle.sync_protocol.specs.Answering.{kept_after, told_of, opening_of, answer_of}
use Rattle.sync_protocol.specs.Asking.{AskerValue, is_over, stage_with}
use Rattle.sync_protocol.specs.Snapshot.{SnapshotValue}
use Rattle.sync_protocol.specs.Turning as turning
use Rattle.sync_protocol.specs.Turning.{StateAndStep}
use Rattle.replica_model.specs.Mail.{Mail, Delta, Hello, Opening, Ask, Page, Gone, is_for, mail_of}
use Rattle.replica_model.specs.Replica.{joins}
use Rattle.replica_model.specs.Delivery as model
use Rattle.replica_model.specs.Delivery.{turn, ignored, Joined, Sent, Ignored, taken, took_hello, took_opening, took_page, took_gone}
use Rattle.replica_model.specs.Step.{Take, Came}
use Rattle.replica_model.proofs.Found.{same_is_one}
use Rattle.replica_core.specs.Meaning.{ReplicaValue, hash_in, kept_of, meaning, waiting_in}
use Rattle.replica_core.specs.Own.{IsReplica}
use Rattle.replica_core.specs.Stepping.{Steps}
use Rattle.replica_core.specs.Tied.{IsFirstAt, NoneIs}
use Rattle.replica_core.specs.Turned.{turned, asked_turn}
use Rattle.replica_core.proofs.Tied.{opening_tied, page_tied, gone_tied}
use Rattle.replica_core.proofs.TiedKept.{hello_tied, ask_tied}
use Rattle.replica_core.proofs.TiedLists.{found_tied, none_tied}

module _ {Hash : Type 0} (hash_of : Hash → List ℕ → ℕ) (old : ReplicaValue Hash) (mapped : IsMapOf old.live.0.0.1 (live_state old.live.0)) where
  pub taken_came : (new : ReplicaValue Hash) (mail : Mail) (outcome : model.Outcome) (out : List Mail) → is_for old.name mail ≡ true
      → taken (hash_of (hash_in old)) old.live.0.0.1 (meaning old) mail ≡ turn (meaning new) outcome out → waiting_in new ≡ waiting_in old
      → hash_in new ≡ hash_in old → Steps hash_of old new (Take mail) (Came outcome) out
  taken_came new mail outcome out here is waiting hash = record {
    step = (
      outcome,
      refl,
      (
        old.live.0.0.1,
        mapped,
        ap (λ b. cond b (taken (hash_of (hash_in old)) old.live.0.0.1 (meaning old) mail) (ignored (meaning old)))
            here ∙ is,
      ),
    );
    waits = waiting;
    hash = hash;
  }

  pub ignored_came : (mail : Mail) → is_for old.name mail ≡ false → Steps hash_of old old (Take mail) (Came Ignored) []
  ignored_came mail away = record {
    step = (
      Ignored,
      refl,
      (old.live.0.0.1, mapped, ap (λ b. cond b (taken (hash_of (hash_in old)) old.live.0.0.1 (meaning old) mail) (ignored (meaning old))) away),
    );
    waits = refl;
    hash = refl;
  }

  -- for whomever it is, nothing comes of it
  pub nothing_came : (mail : Mail) → taken (hash_of (hash_in old)) old.live.0.0.1 (meaning old) mail ≡ ignored (meaning old)
      → Steps hash_of old old (Take mail) (Came Ignored) []
  nothing_came mail none = record { step = (Ignored, refl, (old.live.0.0.1, mapped, either (is_for old.name mail))); waits = refl; hash = refl }
    where
      either : (b : Bool) → cond b (taken (hash_of (hash_in old)) old.live.0.0.1 (meaning old) mail) (ignored (meaning old)) ≡ ignored (meaning old)
      either true = none
      either false = refl

  -- a delta
  pub delta_came : (new : ReplicaValue Hash) (d : MapState) → meaning new ≡ joins (meaning old) d → waiting_in new ≡ waiting_in old → hash_in new ≡ hash_in old
      → Steps hash_of old new (Take (Delta d)) (Came Joined) []
  delta_came new d is waiting hash = taken_came new (Delta d) Joined [] refl (ap (λ r. turn r Joined []) (sym is)) waiting hash

  -- a hello
  pub hello_came : IsReplica hash_of old → (new : ReplicaValue Hash) (s : SessionValue) (k : SnapshotValue Hash) (opening : MessageValue)
      → (s.answerer == old.name) ≡ true
      → k.hash ≡ hash_in old → k.map ≡ old.live.0.0.1 → k.context ≡ old.live.0.1
      → opening ≡ opening_of hash_of s (told_of old.kept s k) → meaning new ≡ record (meaning old) { kept = map kept_of (kept_after old.kept s k) }
      → waiting_in new ≡ waiting_in old → hash_in new ≡ hash_in old
      → Steps hash_of old new (Take (Hello s (has k.seen))) (Came Sent) (mail_of opening ∷ [])
  hello_came is new s k opening here hashed map_is context_is told means waiting hash =
      taken_came new (Hello s (has k.seen)) Sent (mail_of opening ∷ []) here (
      ap (λ m. took_hello (hash_of (hash_in old)) m (meaning old) s (has k.seen) (Rattle.replica_model.specs.Replica.kept_at (map kept_of old.kept) s))
      (sym map_is)
      ∙ hello_tied hash_of (hash_in old) old.kept s k (meaning old) is.kept hashed refl (λ i. has (sym context_is i))
      ∙ (λ i. turn (sym means i) Sent (mail_of (sym told i) ∷ []))
      ) waiting hash

  -- an ask
  pub ask_came : IsReplica hash_of old → (s : SessionValue) (prefix : List ℕ) (answer : MessageValue) → (s.answerer == old.name) ≡ true
      → Some answer ≡ answer_of hash_of old.kept s prefix → Steps hash_of old old (Take (Ask s prefix)) (Came Sent) (mail_of answer ∷ [])
  ask_came is s prefix answer here told =
      taken_came old (Ask s prefix) Sent (mail_of answer ∷ []) here
      (ask_tied hash_of (hash_in old) old.kept s prefix (meaning old) is.kept refl ∙ ap (asked_turn (meaning old)) (sym told)) refl refl

  pub ask_ignored : IsReplica hash_of old → (s : SessionValue) (prefix : List ℕ) → None ≡ answer_of hash_of old.kept s prefix
      → Steps hash_of old old (Take (Ask s prefix)) (Came Ignored) []
  ask_ignored is s prefix told =
      nothing_came (Ask s prefix) (ask_tied hash_of (hash_in old) old.kept s prefix (meaning old) is.kept refl ∙ ap (asked_turn (meaning old)) (sym told))

  -- ---- of an own session

  for_asker : (s : SessionValue) (a : AskerValue Hash) → a.session.asker ≡ old.name → same_session a.session s ≡ true → (s.asker == old.name) ≡ true
  for_asker s a named same = eq-eqb s.asker old.name (ap (λ (x : SessionValue). x.asker) (sym (same_is_one a.session s same)) ∙ named)

  module _ (new : ReplicaValue Hash) (s : SessionValue) (place : ℕ) (a : AskerValue Hash)
      (first : IsFirstAt (λ b. same_session b.session s) old.sessions place a) (named : a.session.asker ≡ old.name)
      (unended : is_over a.stage ≡ false) (t : StateAndStep) (outcome : model.Outcome) (out : List Mail)
      (came : turned (meaning old) t.0 t.1 ≡ turn (meaning new) outcome out) (waiting : waiting_in new ≡ waiting_in old)
      (hash : hash_in new ≡ hash_in old) where
    pub opening_came : (context : ContextValue) (root : Option (List ℕ))
        → t ≡ turning.opening_at (hash_of (hash_in old)) a.session (stage_with a.own a.seen a.stage) context root
        → Steps hash_of old new (Take (Opening s (has context) root)) (Came outcome) out
    opening_came context root is =
        taken_came new (Opening s (has context) root) outcome out (for_asker s a named first.1)
        (ap (took_opening (hash_of (hash_in old)) (meaning old) (has context) root) (found_tied old.sessions s place a first)
        ∙ opening_tied (hash_of (hash_in old)) (meaning old) a unended context root t is ∙ came) waiting hash

    pub page_came : (sent : SentValue) → t ≡ turning.page_at_stage (hash_of (hash_in old)) a.session (stage_with a.own a.seen a.stage) sent
        → Steps hash_of old new (Take (Page s sent)) (Came outcome) out
    page_came sent is =
        taken_came new (Page s sent) outcome out (for_asker s a named first.1)
        (ap (took_page (hash_of (hash_in old)) (meaning old) sent) (found_tied old.sessions s place a first)
        ∙ page_tied (hash_of (hash_in old)) (meaning old) a unended sent t is ∙ came) waiting hash

    pub gone_came : t ≡ turning.gone_at a.session (stage_with a.own a.seen a.stage) → Steps hash_of old new (Take (Gone s)) (Came outcome) out
    gone_came is =
        taken_came new (Gone s) outcome out (for_asker s a named first.1)
        (ap (took_gone (meaning old)) (found_tied old.sessions s place a first) ∙ gone_tied (meaning old) a unended t is ∙ came) waiting hash

  module _ (s : SessionValue) (missing : NoneIs (λ b. same_session b.session s) old.sessions) where
    pub opening_missed : (context : ContextValue) (root : Option (List ℕ)) → Steps hash_of old old (Take (Opening s (has context) root)) (Came Ignored) []
    opening_missed context root = nothing_came (Opening s (has context) root)
        (ap (took_opening (hash_of (hash_in old)) (meaning old) (has context) root) (none_tied old.sessions s missing))

    pub page_missed : (sent : SentValue) → Steps hash_of old old (Take (Page s sent)) (Came Ignored) []
    page_missed sent = nothing_came (Page s sent) (ap (took_page (hash_of (hash_in old)) (meaning old) sent) (none_tied old.sessions s missing))

    pub gone_missed : Steps hash_of old old (Take (Gone s)) (Came Ignored) []
    gone_missed = nothing_came (Gone s) (ap (took_gone (meaning old)) (none_tied old.sessions s missing))
