-- A replica that opens its next own session.
use Rattle.std.proofs.Common.{◌≡◌, ◌<◌, ◌≤◌, ◌+◌, ℕ, List, [], ◌∷◌, ◌++◌, map, take, length, Less, arith, refl, sym, ap, ◌∙◌, subst}
use Rattle.std.proofs.Math.Seq.{take-append_seam}
use Rattle.std.specs.List.{All, AllByRecursion}
use Rattle.std.specs.List.Sorted.{IsStrictlySortedBy}
use Rattle.std.specs.Ordering.{nat_cmp}
use Rattle.std.proofs.lemmas.List.{map-append}
use Rattle.std.proofs.lemmas.List.Elements.{All-append, All-cons, All-head, All-nil, All-tail, All-weaker}
use Rattle.causal_context.specs.Context.{has}
use Rattle.delta_ops.specs.Group.{group_state}
use Rattle.delta_ops.specs.LiveMap.{live_state}
use Rattle.hash_path.proofs.Orders.{is_less}
use Rattle.op_model.specs.Meaning.{MapState}
use Rattle.prefix_digest.specs.MapOf.{IsMapOf}
use Rattle.sync_model.specs.Closing as closing
use Rattle.sync_model.specs.Closing.{IsBelow}
use Rattle.sync_model.specs.Differ.{Held}
use Rattle.sync_protocol.specs.Asking.{AskerValue, Asked}
use Rattle.sync_protocol.specs.Laws.{AreHashedBy}
use Rattle.wire_form.specs.Session.{SessionValue}
use Rattle.replica_model.proofs.Growing.{below_itself}
use Rattle.replica_model.proofs.States.{same_is}
use Rattle.replica_model.specs.Replica.{next_session, opens}
use Rattle.replica_core.specs.Meaning.{ReplicaValue, hash_in, open_of, kept_of, meaning}
use Rattle.replica_core.specs.Own.{IsOwn, IsReplica, numbers}
use Rattle.replica_core.proofs.Changing.{StaysButOpened}
use Rattle.replica_core.proofs.Meant.{meaning_by}

-- ---- one more behind numbers that ascend

all_less : (ns : List ℕ) (n m : ℕ) → n < m → AllByRecursion (λ y. nat_cmp n y ≡ Less) ns → AllByRecursion (λ y. nat_cmp n y ≡ Less) (ns ++ m ∷ [])
all_less [] n m h all = (is_less n m h, tt)
all_less (x ∷ xs) n m h all = (all.0, all_less xs n m h all.1)

one_more : {Hash : Type 0} (list : List (AskerValue Hash)) (a : AskerValue Hash) (n : ℕ) → IsStrictlySortedBy nat_cmp (numbers list)
    → All (λ b. b.session.number ≤ n) list → n < a.session.number
    → IsStrictlySortedBy nat_cmp (numbers list ++ a.session.number ∷ [])
unfolding IsStrictlySortedBy
one_more [] a n sorted below above = (tt, tt)
one_more (x ∷ xs) a n sorted below above =
    let here = All-head (λ b. b.session.number ≤ n) x xs below in (
      all_less (numbers xs) x.session.number a.session.number (omega (arith, here, above)) sorted.0,
      one_more xs a n sorted.1 (All-tail (λ b. b.session.number ≤ n) x xs below) above,
    )

-- ---- what was there before one more was added is the front of what is there then

pub front_again : {X : Type 0} (old new cut : List X) {n : ℕ} (x : X) → new ≡ old ++ x ∷ [] → n ≡ length old → cut ≡ take n new → cut ≡ old
front_again old new cut x more count is = is ∙ (λ i. take (count i) (more i)) ∙ take-append_seam old (x ∷ [])

-- ---- the map of a state is below it

pub map_below : (m : Held) (live : MapState) → IsMapOf m live → IsBelow (closing.held_state m live.has) live
map_below m live mapped =
    subst (λ p. IsBelow p live) (sym (same_is (closing.held_state m live.has) live (record { at = λ place dot. mapped.at place dot; has = λ dot. refl })))
    (below_itself live)

-- ---- the session is opened

module _ {Hash : Type 0} (old new : ReplicaValue Hash) (a : AskerValue Hash) (session : SessionValue)
    (next : session ≡ next_session (meaning old) session.answerer)
    (made : a ≡ record { session = session; hash = hash_in old; own = old.live.0.0.1; seen = old.live.0.1; stage = Asked })
    (sessions : new.sessions ≡ old.sessions ++ a ∷ [])
    (rest : StaysButOpened old new) (opened : new.opened ≡ session.number) where
  number_is : session.number ≡ old.opened + 1
  number_is = ap (λ (s : SessionValue). s.number) next

  open_is : open_of a ≡ record {
    session = next_session (meaning old) session.answerer;
    own = old.live.0.0.1;
    seen = (meaning old).live.has;
    accepted = Rattle.std.specs.Prelude.None;
  }
  open_is = ap open_of made ∙ (λ i. record { session = next i; own = old.live.0.0.1; seen = has old.live.0.1; accepted = Rattle.std.specs.Prelude.None })

  pub opened_meaning : meaning new ≡ opens (meaning old) session.answerer old.live.0.0.1
  opened_meaning =
      meaning_by new (opens (meaning old) session.answerer old.live.0.0.1) rest.name (ap live_state rest.live) (ap group_state rest.group) (opened ∙ number_is)
      (ap (map open_of) sessions ∙ map-append open_of old.sessions (a ∷ []) ∙ ap (λ o. map open_of old.sessions ++ o ∷ []) open_is) (ap (map kept_of) rest.kept)

  module _ (hash_of : Hash → List ℕ → ℕ) (is : IsReplica hash_of old) (mapped : IsMapOf old.live.0.0.1 (live_state old.live.0)) where
    own_new : IsOwn hash_of old.name (hash_in old) (live_state old.live.0) a
    own_new =
        subst (IsOwn hash_of old.name (hash_in old) (live_state old.live.0)) (sym made) (record {
          asker = ap (λ (s : SessionValue). s.asker) next;
          hash_is = refl;
          is_open = refl;
          below = map_below old.live.0.0.1 (live_state old.live.0) mapped;
          built = tt;
        })

    number_new : a.session.number ≡ old.opened + 1
    number_new = ap (λ (b : AskerValue Hash). b.session.number) made ∙ number_is

    pub opened_is : IsReplica hash_of new
    opened_is = record {
      own =
          let P : ℕ → Hash → MapState → AskerValue Hash → Type 0 = λ n h l. IsOwn hash_of n h l in
          let both = All-append (P old.name (hash_in old) (live_state old.live.0)) old.sessions (a ∷ []) is.own
          (All-cons (P old.name (hash_in old) (live_state old.live.0)) a [] own_new (All-nil (P old.name (hash_in old) (live_state old.live.0)))) in
          subst (λ l. All (P new.name (hash_in new) (live_state l)) new.sessions) (sym rest.live)
          (subst (λ n. All (P n (hash_in new) (live_state old.live.0)) new.sessions) (sym rest.name)
          (subst (λ h. All (P old.name h (live_state old.live.0)) new.sessions) (sym (ap (λ p. p.0.0) rest.live))
          (subst (All (P old.name (hash_in old) (live_state old.live.0))) (sym sessions) both)));
      ascend =
          let above : old.opened < a.session.number = let e = number_new in omega (arith, e) in
          subst (λ them. IsStrictlySortedBy nat_cmp (numbers them)) (sym sessions)
          (subst (IsStrictlySortedBy nat_cmp) (sym (map-append (λ (b : AskerValue Hash). b.session.number) old.sessions (a ∷ [])))
          (one_more old.sessions a old.opened is.ascend is.numbered above));
      numbered =
          let Q : ℕ → AskerValue Hash → Type 0 = λ n b. b.session.number ≤ n in
          let e = opened ∙ number_is in
          let f = number_new in
          let more : (b : AskerValue Hash) → Q old.opened b → Q new.opened b = λ b h. omega (arith, h, e) in
          subst (All (Q new.opened)) (sym sessions) (All-append (Q new.opened) old.sessions (a ∷ [])
          (All-weaker (Q old.opened) (Q new.opened) more old.sessions is.numbered)
          (All-cons (Q new.opened) a [] (omega (arith, e, f)) (All-nil (Q new.opened))));
      kept = subst (λ h. AreHashedBy Hash h new.kept) (sym (ap (λ p. p.0.0) rest.live)) (subst (AreHashedBy Hash (hash_in old)) (sym rest.kept) is.kept);
    }
