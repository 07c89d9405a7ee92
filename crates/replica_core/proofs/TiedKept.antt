-- The snapshots that are kept, and what hellos and asks are answered, by their turns and by the model.
use Rattle.std.proofs.Common.{◌≡◌, ℕ, List, [], ◌∷◌, ◌++◌, length, Bool, true, false, Option, Some, None, cond, true≢false, refl, sym, ap, ◌∙◌}
use Rattle.std.specs.Prelude.{map, nat_lt}
use Rattle.std.specs.Option.{option_map}
use Rattle.std.proofs.lemmas.List.{map-append, length-map}
use Rattle.std.proofs.lemmas.List.Elements.{All-head, All-tail}
use Rattle.causal_context.specs.Context.{has}
use Rattle.dots.specs.Dot.{DotValue}
use Rattle.wire_form.specs.Page.{PageValue}
use Rattle.wire_form.specs.Session.{SessionValue, same_session}
use Rattle.prefix_digest.specs.Page.{page_at, digest_at}
use Rattle.sync_protocol.specs.Answering as answering
use Rattle.sync_protocol.specs.Answering.{snapshot_of, with_place, kept_with, told_with, answer_with}
use Rattle.sync_protocol.specs.Snapshot.{SnapshotValue, KeptValue}
use Rattle.replica_model.specs.Mail.{Opening, mail_of}
use Rattle.replica_model.specs.Replica as model
use Rattle.replica_model.specs.Replica.{Replica, Kept, kept_at}
use Rattle.replica_model.specs.Delivery.{Turn, turn, Sent, took_hello, answered, took_ask}
use Rattle.replica_model.proofs.Found.{same_is_one, one_is_same}
use Rattle.replica_core.specs.Meaning.{kept_of}
use Rattle.replica_core.specs.Turned.{asked_turn}
use Rattle.replica_core.specs.Tied.{KeptAreTied, KeepingIsTied, AreOf, HellosAreTied, AsksAreTied}

-- whether two sessions are one can be asked from either
pub other_way : (s t : SessionValue) → same_session s t ≡ same_session t s
other_way s t = step (same_session s t) refl (same_session t s) refl
  where
    step : (b : Bool) → same_session s t ≡ b → (c : Bool) → same_session t s ≡ c → b ≡ c
    step true e true f = refl
    step false e false f = refl
    step true e false f = absurd (true≢false (sym (one_is_same t s (sym (same_is_one s t e))) ∙ f))
    step false e true f = absurd (true≢false (sym (one_is_same s t (sym (same_is_one t s f))) ∙ e))

module _ {Hash : Type 0} where
  pub kept_tied : KeptAreTied Hash
  kept_tied [] s = refl
  kept_tied (k ∷ ks) s = ap (λ b. cond b (Some (kept_of k)) (kept_at (map kept_of ks) s)) (other_way k.0 s)
      ∙ step (same_session s k.0) refl (kept_tied ks s)
    where
      step : (b : Bool) → same_session s k.0 ≡ b → kept_at (map kept_of ks) s ≡ option_map (λ x. kept_of (s, x)) (snapshot_of ks s)
          → cond b (Some (kept_of k)) (kept_at (map kept_of ks) s) ≡ option_map (λ x. kept_of (s, x)) (cond b (Some k.1) (snapshot_of ks s))
      step true e rest = ap (λ (t : SessionValue). Some (kept_of (t, k.1))) (sym (same_is_one s k.0 e))
      step false e rest = rest

  but_first : (kept : KeptValue Hash) → map kept_of (answering.all_but_first kept) ≡ model.all_but_first (map kept_of kept)
  but_first [] = refl
  but_first (k ∷ ks) = refl

  placed : (kept : KeptValue Hash) (b : Bool) → map kept_of (cond b kept (answering.all_but_first kept))
      ≡ cond b (map kept_of kept) (model.all_but_first (map kept_of kept))
  placed kept true = refl
  placed kept false = but_first kept

  pub keeping_tied : KeepingIsTied Hash
  keeping_tied kept s new =
      map-append kept_of (with_place kept) ((s, new) ∷ [])
      ∙ ap (λ ks. ks ++ kept_of (s, new) ∷ []) (placed kept (nat_lt (length kept) 8))
      ∙ ap (λ n. cond (nat_lt n 8) (map kept_of kept) (model.all_but_first (map kept_of kept)) ++ kept_of (s, new) ∷ []) (sym (length-map kept kept_of))

  -- the one that is found is by the hash of all
  found_of : (hash : Hash) (kept : KeptValue Hash) (s : SessionValue) → AreOf hash kept → (k : SnapshotValue Hash)
      → snapshot_of kept s ≡ Some k → k.hash ≡ hash
  found_of hash [] s are k e = absurd cc
  found_of hash (x ∷ xs) s are k e = step (same_session s x.0) e (found_of hash xs s (All-tail (λ e. e.1.hash ≡ hash) x xs are) k)
    where
      step : (b : Bool) → cond b (Some x.1) (snapshot_of xs s) ≡ Some k → (snapshot_of xs s ≡ Some k → k.hash ≡ hash) → k.hash ≡ hash
      step true e rest =
          let one : x.1 ≡ k = cc in
          ap (λ (y : SnapshotValue Hash). y.hash) (sym one) ∙ All-head (λ (e : SessionValue × SnapshotValue Hash). e.1.hash ≡ hash) x xs are
      step false e rest = rest e

  module _ (hash_by : Hash → List ℕ → ℕ) where
    -- a turn by what is kept then, and by what is told
    abbrev told : Replica → SessionValue → List Kept → (DotValue → Bool) → Hash → SnapshotValue Hash → Turn
    told r s ks context h k = turn (record r { kept = ks }) Sent (Opening s context (digest_at (hash_by h) k.map []) ∷ [])

    pub hello_tied : HellosAreTied hash_by
    hello_tied hash kept s new r are is same live =
        ap (λ ks. took_hello (hash_by hash) new.map r s (has new.seen) (kept_at ks s)) same
        ∙ ap (took_hello (hash_by hash) new.map r s (has new.seen)) (kept_tied kept s)
        ∙ step (snapshot_of kept s) (found_of hash kept s are)
      where
        step : (o : Option (SnapshotValue Hash)) → ((k : SnapshotValue Hash) → o ≡ Some k → k.hash ≡ hash)
            → took_hello (hash_by hash) new.map r s (has new.seen) (option_map (λ k. kept_of (s, k)) o)
            ≡ turn (record r { kept = map kept_of (kept_with s new kept o) }) Sent (mail_of (answering.opening_of hash_by s (told_with new o)) ∷ [])
        step None of =
            (λ i. told r s (model.keeping (record { session = s; seen = has new.seen; map = new.map; context = live i }) (same i)) (live i) (sym is i) new)
            ∙ ap (λ ks. told r s ks (has new.context) new.hash new) (sym (keeping_tied kept s new))
        step (Some k) of = λ i. told r s (same i) (has k.context) (sym (of k refl) i) k

    pub ask_tied : AsksAreTied hash_by
    ask_tied hash kept s prefix r are same =
        ap (λ ks. took_ask (hash_by hash) r s prefix (kept_at ks s)) same
        ∙ ap (took_ask (hash_by hash) r s prefix) (kept_tied kept s)
        ∙ step (snapshot_of kept s) (found_of hash kept s are)
      where
        paged : (k : SnapshotValue Hash) (page : Option PageValue)
            → answered (hash_by k.hash) r s (kept_of (s, k)) prefix page
            ≡ asked_turn r (option_map (answering.page_for hash_by s k prefix) page)
        paged k None = refl
        paged k (Some page) = refl

        step : (o : Option (SnapshotValue Hash)) → ((k : SnapshotValue Hash) → o ≡ Some k → k.hash ≡ hash)
            → took_ask (hash_by hash) r s prefix (option_map (λ k. kept_of (s, k)) o) ≡ asked_turn r (answer_with hash_by s prefix o)
        step None of = refl
        step (Some k) of =
            ap (λ h. answered (hash_by h) r s (kept_of (s, k)) prefix (page_at (hash_by h) k.map prefix)) (sym (of k refl))
            ∙ paged k (page_at (hash_by k.hash) k.map prefix)
