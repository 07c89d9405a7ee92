-- What a world keeps of its replicas for when they crash: how often each was saved, and what it is to come back from where it did something since.
-- Of this project.
use Rattle.std.specs.Prelude.{◌≡◌, ◌⊎◌, ◌<◌, ◌+◌, ◌^◌, ◌==◌, ℕ, Bool, true, false, cond, Option, Some, None, IsSome}
use Rattle.std.specs.BTreeMap.{BTreeMap, get}
use Rattle.std.specs.Ordering.{nat_cmp}
use Rattle.replica_core.specs.Meaning.{ReplicaValue, meaning}
use Rattle.replica_core.specs.Saving.{CheckpointValue, checkpointed}
use Rattle.replica_model.specs.Happened.{Happened}
use Rattle.replica_model.specs.Replica.{Replica, restarts}
use Rattle.replica_model.specs.World.{Event, Node, At, Deliver}
use Rattle.replica_world.specs.Happening.{happened_value}
use Rattle.replica_world.specs.declared.accepted.Accepted.{Accepted}
use Rattle.replica_world.specs.declared.recovery.Recovery.{Recovery}

-- what happened, and how often its replica had been saved before it
abbrev pub accepted_value : {A : Type 0} → Accepted A → Happened × ℕ
accepted_value a = (happened_value a, a.saves)

-- the replica that comes back from a checkpoint
abbrev pub checkpoint_at : {Hash : Type 0} → Option (CheckpointValue Hash) → Option Replica
checkpoint_at None = None
checkpoint_at (Some c) = Some (checkpointed c)

module _ {Hash A : Type 0} where
  abbrev pub saves_of : Option (Recovery Hash A) → ℕ
  saves_of None = 0
  saves_of (Some k) = k.saves

  abbrev pub back_of : Option (Recovery Hash A) → Option Replica
  back_of None = None
  back_of (Some k) = checkpoint_at k.checkpoint

  -- how often the replica of this name was saved, and what it is to come back from
  abbrev pub saves_in : BTreeMap ℕ (Recovery Hash A) → ℕ → ℕ
  saves_in kept name = saves_of (get nat_cmp kept name)

  abbrev pub back_in : BTreeMap ℕ (Recovery Hash A) → ℕ → Option Replica
  back_in kept name = back_of (get nat_cmp kept name)

  -- there is a place for what is kept of the replica of this name, and it may be saved once more
  abbrev pub HasPlace : BTreeMap ℕ (Recovery Hash A) → ℕ → Type 0
  HasPlace kept name = (k : Recovery Hash A) × (get nat_cmp kept name ≡ Some k) × (k.saves + 1 < 2 ^ 64)

  -- before an event: there is a place for its replica, and it is kept what this is to come back from, where it is there
  abbrev pub IsReady : BTreeMap ℕ (ReplicaValue Hash) → BTreeMap ℕ (Recovery Hash A) → Event → Type 0
  IsReady replicas kept (Node name) = HasPlace kept name
  IsReady replicas kept (At name c) = IsSome (get nat_cmp replicas name) → HasPlace kept name × IsSome (back_in kept name)
  IsReady replicas kept (Deliver number name) = IsSome (get nat_cmp replicas name) → HasPlace kept name × IsSome (back_in kept name)

  -- the replica of this name was saved once more
  abbrev pub SavedOnce : BTreeMap ℕ (Recovery Hash A) → BTreeMap ℕ (Recovery Hash A) → ℕ → Type 0
  SavedOnce old new name = (n : ℕ) → (saves_in new n ≡ cond (n == name) (saves_in old n + 1) (saves_in old n))
      × (back_in new n ≡ cond (n == name) None (back_in old n))

  -- it was saved, or nothing changed
  abbrev pub Settles : Bool → BTreeMap ℕ (Recovery Hash A) → BTreeMap ℕ (Recovery Hash A) → ℕ → Type 0
  Settles true old new name = SavedOnce old new name
  Settles false old new name = new ≡ old

  -- where nothing is kept of a replica, it may be kept now what it is to come back from; and all else stays
  abbrev pub Notes : BTreeMap ℕ (ReplicaValue Hash) → BTreeMap ℕ (Recovery Hash A) → BTreeMap ℕ (Recovery Hash A) → Type 0
  Notes replicas old new = (name : ℕ) → (saves_in new name ≡ saves_in old name)
      × ((back_in new name ≡ back_in old name)
      ⊎ ((back_in old name ≡ None) × ((r : ReplicaValue Hash) × (get nat_cmp replicas name ≡ Some r) × (back_in new name ≡ Some (restarts (meaning r))))))
