-- When an event is refused, and what comes first. Of this project.
use Rattle.std.specs.Prelude.{◌≡◌, ◌⊎◌, ℕ, Bool, true, false, List, Option, Some, None}
use Rattle.dots.specs.declared.refusal.Refusal.{Refusal}
use Rattle.dots.specs.declared.refusal.Refusal.TheVariants.{OutOfMemory, UnknownReplica}
use Rattle.replica_model.specs.World.{World, Event, RefusesEvent, is_node, nothing, Runs}

-- the model does not refuse the event
abbrev pub IsUnrefused : World → Event → Type 0
IsUnrefused w e = (refusal : Refusal) → ¬ RefusesEvent w e refusal

-- as the model refuses it, and for want of memory only where that does not
abbrev pub IsRefusedIn : World → Event → Refusal → Type 0
IsRefusedIn w e refusal = ((refusal ≡ OutOfMemory) × IsUnrefused w e) ⊎ RefusesEvent w e refusal

-- the refusal that the event meets whatever memory there is, or that it meets none
abbrev pub ForetellsIn : World → Event → Option Refusal → Type 0
ForetellsIn w e None = IsUnrefused w e
ForetellsIn w e (Some refusal) = RefusesEvent w e refusal

-- whether a replica of this name is there after these events
abbrev pub IsNodeAfter : (List ℕ → ℕ) → List Event → ℕ → Bool → Type 0
IsNodeAfter hash_of past name b = (w : World) → Runs hash_of nothing past w → is_node w name ≡ b

-- a save or a crash of it is refused: as unknown where it is not there, and else for want of memory
abbrev pub IsRefusedAt : (List ℕ → ℕ) → List Event → ℕ → Refusal → Type 0
IsRefusedAt hash_of past name refusal =
    ((refusal ≡ UnknownReplica) × IsNodeAfter hash_of past name false) ⊎ ((refusal ≡ OutOfMemory) × IsNodeAfter hash_of past name true)
