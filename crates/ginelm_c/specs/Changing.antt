-- What a handle tells of what changed since it was last asked. Of this project.
use Rattle.std.specs.Prelude.{◌≡◌, List, ℕ, [], Contains}
use Rattle.op_model.specs.Shown.{IsAscending}
use Rattle.prefix_digest.specs.MapOf.{IsMapOf}
use Rattle.sync_model.specs.Laws.{NoClash}
use Rattle.map_changes.specs.Changes.{IsChanged}
use Rattle.replica_core.specs.Meaning.{meaning}
use Rattle.ginelm_c.specs.declared.held.Held.{Held}
use Rattle.ginelm_c.specs.Handling.{hash_of}
use Rattle.ginelm_c.specs.Texts.{shown}

-- The replica is as it was; the texts are keys at which its map is not the one of which it was last told, and unless pages or values clash all
-- of them; and it is told of the map as it is.
pub record TellsChanges (x y : Held) : Type 0 where
  pub same : y.replica ≡ x.replica
  pub told : IsMapOf y.watched.map (meaning x.replica).live
  pub ascending : IsAscending (shown y.texts)
  pub changed : (key : List ℕ) → Contains (shown y.texts) key → IsChanged x.watched.map y.watched.map key
  pub all : NoClash (hash_of x.watched.hash) x.watched.map y.watched.map [] → (key : List ℕ) → IsChanged x.watched.map y.watched.map key
      → Contains (shown y.texts) key
