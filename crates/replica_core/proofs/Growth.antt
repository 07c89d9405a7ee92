-- A replica that grows stays a replica: what is below what it holds stays below it.
use Rattle.std.proofs.Common.{◌≡◌, ℕ, List, sym, subst, ap}
use Rattle.std.specs.Prelude.{◌≤◌}
use Rattle.std.specs.List.{All}
use Rattle.std.specs.List.Sorted.{IsStrictlySortedBy}
use Rattle.std.specs.Ordering.{nat_cmp}
use Rattle.std.proofs.lemmas.List.Elements.{All-weaker}
use Rattle.delta_ops.specs.LiveMap.{live_state}
use Rattle.op_model.specs.Meaning.{MapState, greater}
use Rattle.op_model.specs.State.{join}
use Rattle.sync_model.specs.Closing.{IsBelow}
use Rattle.sync_model.specs.Closing as closing
use Rattle.causal_context.specs.Context.{has}
use Rattle.sync_protocol.specs.Asking.{AskerValue}
use Rattle.sync_protocol.specs.Laws.{AreHashedBy}
use Rattle.replica_model.proofs.Growing.{below_itself, below_join, below_below}
use Rattle.replica_core.specs.Meaning.{ReplicaValue, hash_in}
use Rattle.replica_core.specs.Own.{IsOwn, IsReplica, numbers}

module _ {Hash : Type 0} (hash_of : Hash → List ℕ → ℕ) where
  pub own_grows : (name : ℕ) (hash : Hash) (before after : MapState) (them : List (AskerValue Hash)) → IsBelow before after
      → All (IsOwn hash_of name hash before) them → All (IsOwn hash_of name hash after) them
  own_grows name hash before after them grew =
      All-weaker (IsOwn hash_of name hash before) (IsOwn hash_of name hash after)
      (λ a own. record {
        asker = own.asker;
        hash_is = own.hash_is;
        is_open = own.is_open;
        below = below_below (closing.held_state a.own (has a.seen)) before after own.below grew;
        built = own.built;
      })
      them

  -- with the same sessions and kept snapshots
  pub grown : (old new : ReplicaValue Hash) → IsReplica hash_of old → new.name ≡ old.name → new.opened ≡ old.opened → new.sessions ≡ old.sessions
      → new.kept ≡ old.kept
      → hash_in new ≡ hash_in old → IsBelow (live_state old.live.0) (live_state new.live.0) → IsReplica hash_of new
  grown old new is name opened sessions kept hash grew = record {
    own =
        let P : ℕ → Hash → List (AskerValue Hash) → Type 0 = λ n h them. All (IsOwn hash_of n h (live_state new.live.0)) them in
        subst (λ n. P n (hash_in new) new.sessions) (sym name)
        (subst (λ h. P old.name h new.sessions) (sym hash) (subst (P old.name (hash_in old)) (sym sessions)
        (own_grows old.name (hash_in old) (live_state old.live.0) (live_state new.live.0) old.sessions grew is.own)));
    ascend = subst (λ them. IsStrictlySortedBy nat_cmp (numbers them)) (sym sessions) is.ascend;
    numbered =
        let Q : ℕ → List (AskerValue Hash) → Type 0 = λ n them. All (λ a. a.session.number ≤ n) them in
        subst (λ n. Q n new.sessions) (sym opened) (subst (Q old.opened) (sym sessions) is.numbered);
    kept =
        let R : Hash → _ → Type 0 = λ h ks. AreHashedBy Hash h ks in
        subst (λ h. R h new.kept) (sym hash) (subst (R (hash_in old)) (sym kept) is.kept);
  }

  -- where a delta was joined in
  pub joined_grown : (old new : ReplicaValue Hash) (delta : MapState) → IsReplica hash_of old → new.name ≡ old.name → new.opened ≡ old.opened
      → new.sessions ≡ old.sessions → new.kept ≡ old.kept
      → hash_in new ≡ hash_in old → live_state new.live.0 ≡ join greater (live_state old.live.0) delta → IsReplica hash_of new
  joined_grown old new delta is name opened sessions kept hash joined =
      grown old new is name opened sessions kept hash (subst (IsBelow (live_state old.live.0)) (sym joined) (below_join (live_state old.live.0) delta))

  -- where the live pair stays
  pub same_grown : (old new : ReplicaValue Hash) → IsReplica hash_of old → new.name ≡ old.name → new.opened ≡ old.opened → new.sessions ≡ old.sessions
      → new.kept ≡ old.kept
      → new.live.0 ≡ old.live.0 → IsReplica hash_of new
  same_grown old new is name opened sessions kept live =
      grown old new is name opened sessions kept (ap (λ p. p.0.0) live)
      (subst (λ p. IsBelow (live_state old.live.0) (live_state p)) (sym live) (below_itself (live_state old.live.0)))
