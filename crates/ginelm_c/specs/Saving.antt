-- What is kept of a replica over a restart, at a handle. Of this project.
use Rattle.std.specs.Prelude.{◌≡◌, ℕ, List}
use Rattle.std.specs.declared.alloc.Global.{Global}
use Rattle.causal_join.specs.OrMap.{or_map_state}
use Rattle.replica_model.specs.Replica.{Replica, fresh, restarts}
use Rattle.replica_core.specs.Meaning.{meaning}
use Rattle.replica_core.specs.Saving.{restored}
use Rattle.saved_form.specs.Saved.{SpellsSaved, saved_value}
use Rattle.saved_form.specs.declared.saved.Saved.{Saved}
use Rattle.ginelm_c.specs.declared.held.Held.{Held}
use Rattle.ginelm_c.specs.Texts.{saved_in}

-- the bytes are of what was saved, and this replica comes back from it
pub record ComesBack (bytes : List ℕ) (replica : Replica) : Type 0 where
  pub saved : Saved Global
  pub spelled : SpellsSaved bytes (saved_value saved)
  pub back : restored saved ≡ replica

-- the bytes are of what was saved, and this is the replica of the name that has seen as much and did nothing
pub record SeesSaved (bytes : List ℕ) (name : ℕ) (replica : Replica) : Type 0 where
  pub saved : Saved Global
  pub spelled : SpellsSaved bytes (saved_value saved)
  pub sees : replica ≡ record (fresh name) { live = or_map_state saved.live }

-- the replica is as it was, and the text is of what comes back as it is, but for its synchronisations
pub record Saves (x y : Held) : Type 0 where
  pub same : y.replica ≡ x.replica
  pub text : ComesBack (saved_in y.texts) (restarts (meaning x.replica))
