-- How the own sessions of a replica change: one is opened, goes on, or is closed.
use Rattle.std.proofs.Common.{◌≡◌, ◌≤◌, ◌+◌, ℕ, List, ◌++◌, Some, map, take, drop, set, sym, ap, ◌∙◌, subst}
use Rattle.std.specs.List.{All, slice_get, remove}
use Rattle.std.specs.List.Sorted.{IsStrictlySortedBy}
use Rattle.std.specs.Ordering.{nat_cmp}
use Rattle.std.proofs.lemmas.List.Elements.{All-append, All-take, All-drop, All-set, All-get_or}
use Rattle.std.proofs.lemmas.Option.{slice_get_within, get_or_from_slice_get}
use Rattle.delta_ops.specs.Group.{group_state}
use Rattle.delta_ops.specs.LiveMap.{live_state}
use Rattle.op_model.specs.Meaning.{MapState}
use Rattle.sync_model.specs.Closing.{IsBelow}
use Rattle.sync_protocol.specs.Asking.{AskerValue}
use Rattle.sync_protocol.specs.Laws.{AreHashedBy}
use Rattle.replica_model.specs.Replica.{advances, closes}
use Rattle.replica_core.specs.Meaning.{ReplicaValue, hash_in, open_of, kept_of, meaning}
use Rattle.replica_core.specs.Own.{IsOwn, IsReplica, numbers}
use Rattle.replica_core.proofs.Growth.{own_grows}
use Rattle.replica_core.proofs.Meant.{meaning_by}
use Rattle.replica_core.proofs.TiedLists.{advances_tied, closes_tied}

-- what holds of all holds of one at a place
pub at_place : {X : Type 0} (P : X → Type 0) (xs : List X) (i : ℕ) (x : X) → slice_get xs i ≡ Some x → All P xs → P x
at_place P xs i x there all = subst P (get_or_from_slice_get xs i x x there) (All-get_or P xs i x (slice_get_within xs i x there) all)

-- the parts that stay
pub record StaysBut {Hash : Type 0} (old new : ReplicaValue Hash) : Type 0 where
  pub name : new.name ≡ old.name
  pub group : new.group ≡ old.group
  pub opened : new.opened ≡ old.opened
  pub kept : new.kept ≡ old.kept
  pub hash : hash_in new ≡ hash_in old

-- the same where a session is opened, and what it holds stays
pub record StaysButOpened {Hash : Type 0} (old new : ReplicaValue Hash) : Type 0 where
  pub name : new.name ≡ old.name
  pub live : new.live.0 ≡ old.live.0
  pub group : new.group ≡ old.group
  pub kept : new.kept ≡ old.kept

module _ {Hash : Type 0} (hash_of : Hash → List ℕ → ℕ) (old new : ReplicaValue Hash) (is : IsReplica hash_of old) (rest : StaysBut old new) (place : ℕ)
    (a : AskerValue Hash) (there : slice_get old.sessions place ≡ Some a) where
  -- the session at a place is closed
  module _ (sessions : new.sessions ≡ remove old.sessions place) where
    pub closed_meaning : (live : MapState) → live_state new.live.0 ≡ live → meaning new ≡ closes (record (meaning old) { live = live }) a.session
    closed_meaning live holds =
        meaning_by new (closes (record (meaning old) { live = live }) a.session) rest.name holds (ap group_state rest.group) rest.opened
        (ap (map open_of) sessions ∙ sym (closes_tied old.sessions place a is.ascend there).0) (ap (map kept_of) rest.kept)

    pub closed_is : remove old.sessions place ≡ take place old.sessions ++ drop (place + 1) old.sessions
        → IsBelow (live_state old.live.0) (live_state new.live.0) → IsReplica hash_of new
    closed_is parts grew = record {
      own =
          let P : ℕ → Hash → AskerValue Hash → Type 0 = λ n h. IsOwn hash_of n h (live_state new.live.0) in
          subst (λ n. All (P n (hash_in new)) new.sessions) (sym rest.name) (subst (λ h. All (P old.name h) new.sessions) (sym rest.hash)
          (subst (All (P old.name (hash_in old))) (sym (sessions ∙ parts))
          (fewer (P old.name (hash_in old)) (own_grows hash_of old.name (hash_in old) (live_state old.live.0) (live_state new.live.0)
          old.sessions grew is.own))));
      ascend = subst (λ them. IsStrictlySortedBy nat_cmp (numbers them)) (sym sessions) (closes_tied old.sessions place a is.ascend there).1;
      numbered =
          let Q : ℕ → AskerValue Hash → Type 0 = λ n b. b.session.number ≤ n in
          subst (λ n. All (Q n) new.sessions) (sym rest.opened) (subst (All (Q old.opened)) (sym (sessions ∙ parts)) (fewer (Q old.opened) is.numbered));
      kept = subst (λ h. AreHashedBy Hash h new.kept) (sym rest.hash) (subst (AreHashedBy Hash (hash_in old)) (sym rest.kept) is.kept);
    }
      where
        fewer : (P : AskerValue Hash → Type 0) → All P old.sessions → All P (take place old.sessions ++ drop (place + 1) old.sessions)
        fewer P all = All-append P (take place old.sessions) (drop (place + 1) old.sessions) (All-take P place old.sessions all)
            (All-drop P (place + 1) old.sessions all)

  -- it goes on
  module _ (next : AskerValue Hash) (session : next.session ≡ a.session) (sessions : new.sessions ≡ set old.sessions place next)
      (live : new.live.0 ≡ old.live.0) where
    pub advanced_meaning : meaning new ≡ advances (meaning old) (open_of next)
    advanced_meaning =
        meaning_by new (advances (meaning old) (open_of next)) rest.name (ap live_state live) (ap group_state rest.group) rest.opened
        (ap (map open_of) sessions ∙ sym (advances_tied old.sessions place a next is.ascend there session).0) (ap (map kept_of) rest.kept)

    pub advanced_is : IsOwn hash_of old.name (hash_in old) (live_state old.live.0) next → IsReplica hash_of new
    advanced_is own = record {
      own =
          let P : ℕ → Hash → MapState → AskerValue Hash → Type 0 = λ n h l. IsOwn hash_of n h l in
          subst (λ l. All (P new.name (hash_in new) (live_state l)) new.sessions) (sym live)
          (subst (λ n. All (P n (hash_in new) (live_state old.live.0)) new.sessions) (sym rest.name)
          (subst (λ h. All (P old.name h (live_state old.live.0)) new.sessions) (sym rest.hash)
          (subst (All (P old.name (hash_in old) (live_state old.live.0))) (sym sessions)
          (All-set (P old.name (hash_in old) (live_state old.live.0)) old.sessions place next own is.own))));
      ascend = subst (λ them. IsStrictlySortedBy nat_cmp (numbers them)) (sym sessions) (advances_tied old.sessions place a next is.ascend there session).1;
      numbered =
          let Q : ℕ → AskerValue Hash → Type 0 = λ n b. b.session.number ≤ n in
          let here : Q old.opened next = subst (λ s. s.number ≤ old.opened) (sym session) (at_place (Q old.opened) old.sessions place a there is.numbered) in
          subst (λ n. All (Q n) new.sessions) (sym rest.opened)
          (subst (All (Q old.opened)) (sym sessions) (All-set (Q old.opened) old.sessions place next here is.numbered));
      kept = subst (λ h. AreHashedBy Hash h new.kept) (sym rest.hash) (subst (AreHashedBy Hash (hash_in old)) (sym rest.kept) is.kept);
    }
