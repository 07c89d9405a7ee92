-- What a replica shows, told by what it has seen alone. Of this project, over the observed-remove map of multi-value registers
-- of Almeida, Shoker and Baquero, "Delta State Replicated Data Types" (2018).
use Rattle.std.specs.Prelude.{◌≡◌, ◌++◌, ℕ, List, [], length}
use Rattle.op_model.specs.Meaning.{MapState, Stands, StandsWithin, HoldsField, HoldsKey}
use Rattle.op_model.specs.Operation.{Operation, NoReuse, has, known}
use Rattle.op_model.specs.Place.{Place}
use Rattle.op_model.specs.Shown.{values, values_of_key, fields, keys, size}
use Rattle.prefix_digest.specs.MapOf.{IsMapOf, root_digest}
use Rattle.prefix_digest.specs.Page.{digest_at}
use Rattle.sync_model.specs.Differ.{Held}
use Rattle.replica_core.specs.Reading.{Lists}
use Rattle.replica_alone.specs.Said.{TakenSay, brought_taken}
use Rattle.replica_model.specs.Alone.{Deed, RunsAlone}
use Rattle.replica_model.specs.World.{World, nothing, Unclashed}

-- what is read off this state is what these operations show: the values of each place and of each key over its fields, the fields of each key, the
-- keys and their number, the known dots, and the root digest
pub record ShowsOperations (hash_of : List ℕ → ℕ) (live : MapState) (S : List Operation) : Type 0 where
  pub values : (place : Place) (found : List (List ℕ)) → Lists (Stands live place) found → found ≡ values S place
  pub values_of_key : (key : List ℕ) (found : List (List ℕ)) → Lists (StandsWithin live key) found → found ≡ values_of_key S key
  pub fields : (key : List ℕ) (found : List (List ℕ)) → Lists (HoldsField live key) found → found ≡ fields S key
  pub keys : (found : List (List ℕ)) → Lists (HoldsKey live) found → found ≡ keys S
  pub size : (found : List (List ℕ)) → Lists (HoldsKey live) found → length found ≡ size S
  pub known : live.has ≡ has (known S)
  pub digest : (map : Held) → IsMapOf map live → digest_at hash_of map [] ≡ root_digest hash_of S

-- of one replica by itself, to which messages come of which each that is taken says what it stands for: unless a dot was used twice by these and by
-- what it made, or pages or values that one of its sessions met clash
abbrev pub ShowsAlone : Type 0
ShowsAlone = (hash_of : List ℕ → ℕ) (name : ℕ) (deeds : List Deed) (w : World) (runs : RunsAlone hash_of name nothing deeds w)
    → TakenSay hash_of name deeds nothing w runs → NoReuse (w.made ++ brought_taken hash_of name deeds nothing w runs) → Unclashed hash_of w
    → ShowsOperations hash_of (w.replica name).live (w.seen name)
