-- What a client is told of writes that it makes at once. Of this project.
use Rattle.std.specs.Prelude.{◌≡◌, ◌⊎◌, ℕ, List, [], ◌∷◌, map, take, drop, length, Option, Some, None}
use Rattle.dots.specs.declared.refusal.Refusal.{Refusal}
use Rattle.dots.specs.declared.refusal.Refusal.TheVariants.{OutOfMemory}
use Rattle.hash_path.specs.Fnv1a.{fnv1a}
use Rattle.replica_core.specs.Stepping.{RefusesNothing}
use Rattle.replica_core.specs.Writing.{answer_of, as_call, call_of}
use Rattle.replica_core.specs.declared.write.Write.{Write}
use Rattle.replica_core.specs.declared.wrote.Wrote.{Wrote}
use Rattle.replica_model.specs.History.{Runs}
use Rattle.replica_model.specs.Replica.{Replica}
use Rattle.replica_model.specs.Step.{Call, Refuses}
use Rattle.node_threads.specs.declared.deed.Deed.{Deed}
use Rattle.node_threads.specs.declared.deed.Deed.TheVariants as deed
use Rattle.node_threads.specs.declared.node_event.NodeEvent.{NodeEvent}
use Rattle.node_threads.specs.History.{IsAfter, entries_of}

-- a write as it stands in a history
abbrev pub deed_of : {A : Type 0} → Write A → Deed A
deed_of w = deed.Call (as_call w)

-- these writes, made at once by the client at a place
abbrev pub made_at : {A : Type 0} → ℕ → List (Write A) → NodeEvent A
made_at place writes = record { place = place; deeds = map deed_of writes }

-- a replica refuses the call so, or else there is no memory
abbrev pub IsRefusedAs : Replica → Call → Refusal → Type 0
IsRefusedAs r call refusal = ((refusal ≡ OutOfMemory) × RefusesNothing r call) ⊎ Refuses r call refusal

-- of the writes that are left the first is refused so, or none is left
abbrev pub IsStoppedBy : {A : Type 0} → Replica → List (Write A) → Option Refusal → Type 0
IsStoppedBy r left None = left ≡ []
IsStoppedBy {A} r left (Some refusal) = (w : Write A) × (rest : List (Write A)) × (left ≡ w ∷ rest) × IsRefusedAs r (call_of w) refusal

-- After the history as many of the writes were made as are answered here, one after the other from the first on, each answered as the replica answers it that
-- the node begins with; and the next one is refused so, if there is one.
abbrev pub Writes : {A : Type 0} → Replica → List (NodeEvent A) → List (Write A) → List Wrote → Option Refusal → Type 0
Writes first history writes wrote refusal =
    (r : Replica) × (next : Replica) × IsAfter first history r
    × ((place : ℕ) → Runs fnv1a r (entries_of (made_at place (take (length wrote) writes))) (map answer_of wrote) next)
    × IsStoppedBy next (drop (length wrote) writes) refusal
