-- What is read of a replica of a world, and when a read is refused: told by the account of what happened. Of this project.
use Rattle.std.specs.Prelude.{◌≡◌, ◌⊎◌, ℕ, Bool, true, false, List}
use Rattle.dots.specs.declared.refusal.Refusal.{Refusal}
use Rattle.dots.specs.declared.refusal.Refusal.TheVariants.{OutOfMemory, UnknownReplica}
use Rattle.op_model.specs.Operation.{Operation}
use Rattle.op_model.specs.World.{is_among}
use Rattle.replica_model.specs.Seen.{Account, Unclashed}

-- whether a replica of this name is there
abbrev pub IsThere : Account → ℕ → Bool → Type 0
IsThere a name b = is_among a.nodes name ≡ b

-- it is there; and unless pages or values that one session met clash, this holds of the operations that it has seen
abbrev pub Shows : (List ℕ → ℕ) → Account → ℕ → (List Operation → Type 0) → Type 0
Shows hash_of a name P = IsThere a name true × (Unclashed hash_of a → P (a.seen name))

-- refused as unknown where it is not there, and else for want of memory
abbrev pub IsUnread : Account → ℕ → Refusal → Type 0
IsUnread a name refusal = ((refusal ≡ UnknownReplica) × IsThere a name false) ⊎ ((refusal ≡ OutOfMemory) × IsThere a name true)
