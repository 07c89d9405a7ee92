-- What a replica means, part by part.
use Rattle.std.proofs.Common.{◌≡◌, ℕ, List, [], map, refl, sym, ap, subst}
use Rattle.std.specs.Prelude.{◌≤◌, IfOk, OnOk, OnErr, Result, Ok, Err}
use Rattle.std.specs.List.{All}
use Rattle.std.specs.List.Sorted.{IsStrictlySortedBy}
use Rattle.std.specs.Ordering.{nat_cmp}
use Rattle.std.proofs.lemmas.List.Elements.{All-nil}
use Rattle.causal_context.specs.Context.{HasNone}
use Rattle.causal_join.specs.OrMap.{FieldsValue, OrMapValue, fields_at}
use Rattle.delta_ops.specs.Group.{group_state}
use Rattle.delta_ops.specs.LiveMap.{live_state}
use Rattle.dot_store.specs.Store.{HasNothing}
use Rattle.live_map.specs.Live.{LiveValue}
use Rattle.trie_map.specs.Keyed.{at_keys}
use Rattle.sync_protocol.specs.Asking.{AskerValue}
use Rattle.sync_protocol.specs.Laws.{AreHashedBy}
use Rattle.sync_protocol.specs.Snapshot.{KeptValue}
use Rattle.replica_model.specs.Replica.{Replica, fresh}
use Rattle.replica_core.specs.Meaning.{ReplicaValue, hash_in, open_of, kept_of, meaning}
use Rattle.replica_core.specs.Own.{IsOwn, IsReplica, numbers}
use Rattle.replica_core.proofs.Pairs.{bottom_live}

sorted_nothing : IsStrictlySortedBy nat_cmp []
unfolding IsStrictlySortedBy
sorted_nothing = tt

module _ {Hash : Type 0} where
  -- a replica, by its parts
  abbrev pub of_parts : ℕ → LiveValue Hash FieldsValue → List OrMapValue → ℕ → List (AskerValue Hash) → KeptValue Hash → ReplicaValue Hash
  of_parts name live group opened sessions kept =
      record { name = name; live = live; group = group; opened = opened; sessions = sessions; kept = kept }

  pub meaning_by : (r : ReplicaValue Hash) (m : Replica) → r.name ≡ m.name → live_state r.live.0 ≡ m.live → group_state r.group ≡ m.group → r.opened ≡ m.opened
      → map open_of r.sessions ≡ m.sessions → map kept_of r.kept ≡ m.kept → meaning r ≡ m
  meaning_by r m name live group opened sessions kept = λ i. record {
    name = name i;
    live = live i;
    group = group i;
    opened = opened i;
    sessions = sessions i;
    kept = kept i;
  }

  -- a replica to which nothing happened
  pub fresh_meaning : (r : ReplicaValue Hash) → HasNothing (at_keys fields_at r.live.0.0) → HasNone r.live.0.1 → r.group ≡ [] → r.opened ≡ 0 → r.sessions ≡ []
      → r.kept ≡ []
      → meaning r ≡ fresh r.name
  fresh_meaning r nothing unknown group opened sessions kept =
      meaning_by r (fresh r.name) refl (bottom_live r.live.0 nothing unknown) (ap group_state group) opened (ap (map open_of) sessions) (ap (map kept_of) kept)

  pub fresh_is : (hash_of : Hash → List ℕ → ℕ) (r : ReplicaValue Hash) → r.sessions ≡ [] → r.kept ≡ [] → IsReplica hash_of r
  fresh_is hash_of r sessions kept = record {
    own = subst (All (IsOwn hash_of r.name (hash_in r) (live_state r.live.0))) (sym sessions)
        (All-nil (IsOwn hash_of r.name (hash_in r) (live_state r.live.0)));
    ascend = subst (λ them. IsStrictlySortedBy nat_cmp (numbers them)) (sym sessions) sorted_nothing;
    numbered = subst (All (λ a. a.session.number ≤ r.opened)) (sym sessions) (All-nil (λ (a : AskerValue Hash). a.session.number ≤ r.opened));
    kept = subst (AreHashedBy Hash (hash_in r)) (sym kept) (All-nil (λ e. e.1.hash ≡ hash_in r));
  }

-- what holds anyway holds where there is an error
pub on_err : {T E : Type 0} {P : Type 0} (r : Result T E) → P → OnErr r P
on_err (Ok x) p = tt
on_err (Err e) p = p

pub both_ok : {T E : Type 0} {P Q R : T → Type 0} (r : Result T E) → ((x : T) → P x → Q x → R x) → IfOk r P → IfOk r Q → IfOk r R
both_ok (Ok x) f p q = f x p q
both_ok (Err e) f p q = tt

-- two facts of one result
pub both_on_ok : {T E : Type 0} {P Q R : Type 0} (r : Result T E) → (P → Q → R) → OnOk r P → OnOk r Q → OnOk r R
both_on_ok (Ok x) f p q = f p q
both_on_ok (Err e) f p q = tt

pub both_on_err : {T E : Type 0} {P Q R : Type 0} (r : Result T E) → (P → Q → R) → OnErr r P → OnErr r Q → OnErr r R
both_on_err (Ok x) f p q = tt
both_on_err (Err e) f p q = f p q

-- what follows of a result, whichever it is
pub by_result : {T E : Type 0} {P Q R : Type 0} (r : Result T E) → (P → R) → (Q → R) → OnOk r P → OnErr r Q → R
by_result (Ok x) f g p q = f p
by_result (Err e) f g p q = g q
