-- What holds of each replica, whatever it was given: of its own sessions and of the snapshots that it keeps. Of this project.
use Rattle.std.specs.Prelude.{◌≡◌, ℕ, ◌≤◌, false, List, map}
use Rattle.std.specs.List.{All}
use Rattle.std.specs.List.Sorted.{IsStrictlySortedBy}
use Rattle.std.specs.Ordering.{nat_cmp}
use Rattle.causal_context.specs.Context.{has}
use Rattle.delta_ops.specs.LiveMap.{live_state}
use Rattle.op_model.specs.Meaning.{MapState}
use Rattle.sync_model.specs.Closing.{IsBelow}
use Rattle.sync_model.specs.Closing as closing
use Rattle.sync_model.specs.Differ.{Held}
use Rattle.page_fetching.specs.Taking.{fetch_of}
use Rattle.sync_protocol.specs.Asking.{AskerValue, StageValue, Asked, Fetching, Complete, Over, is_over}
use Rattle.sync_protocol.specs.Laws.{AreHashedBy}
use Rattle.replica_core.specs.Known.{IsKnown}
use Rattle.replica_core.specs.Meaning.{ReplicaValue, hash_in}

-- the numbers of own sessions
abbrev pub numbers : {Hash : Type 0} → List (AskerValue Hash) → List ℕ
numbers sessions = map (λ a. a.session.number) sessions

module _ {Hash : Type 0} (hash_of : Hash → List ℕ → ℕ) where
  -- where it fetches, what it built is known to its opening, but under what it waits for
  abbrev pub KnowsBuilt : Hash → Held → StageValue Hash → Type 0
  KnowsBuilt hash own Asked = Unit {0}
  KnowsBuilt hash own (Fetching c f) = IsKnown (hash_of hash) own (has c) (fetch_of f)
  KnowsBuilt hash own (Complete c b) = Unit {0}
  KnowsBuilt hash own Over = Unit {0}

  -- a session of this replica that is open, of a map that is below what it holds
  pub record IsOwn (name : ℕ) (hash : Hash) (live : MapState) (a : AskerValue Hash) : Type 0 where
    pub asker : a.session.asker ≡ name
    pub hash_is : a.hash ≡ hash
    pub is_open : is_over a.stage ≡ false
    pub below : IsBelow (closing.held_state a.own (has a.seen)) live
    pub built : KnowsBuilt hash a.own a.stage

  -- the numbers of its own sessions ascend, and none is above that of the last that it opened; and the keys' paths of what it keeps are by
  -- its hash
  pub record IsReplica (r : ReplicaValue Hash) : Type 0 where
    pub own : All (IsOwn r.name (hash_in r) (live_state r.live.0)) r.sessions
    pub ascend : IsStrictlySortedBy nat_cmp (numbers r.sessions)
    pub numbered : All (λ a. a.session.number ≤ r.opened) r.sessions
    pub kept : AreHashedBy Hash (hash_in r) r.kept
