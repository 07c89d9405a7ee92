-- What the calls with a snapshot make of its handle. Of this project.
use Rattle.std.specs.Prelude.{◌≡◌, ℕ, List, [], Contains}
use Rattle.delta_ops.specs.LiveMap.{store_state}
use Rattle.hash_path.specs.Fnv1a.{fnv1a}
use Rattle.op_model.specs.Meaning.{MapState}
use Rattle.op_model.specs.Shown.{IsAscending}
use Rattle.sync_model.specs.Laws.{NoClash}
use Rattle.map_changes.specs.Changes.{IsChanged}
use Rattle.replica_core.specs.Meaning.{meaning}
use Rattle.replica_core.specs.Reading.{Lists}
use Rattle.ginelm_c.specs.declared.held.Held.{Held}
use Rattle.ginelm_c.specs.declared.snapshot.Snapshot.{Snapshot}
use Rattle.ginelm_c.specs.Texts.{shown}

-- what stands in it
abbrev pub state_in : Snapshot → MapState
state_in s = store_state s.store

-- what stands in it is what the replica held
abbrev pub IsTakenOf : Held → Snapshot → Type 0
IsTakenOf x s = (state_in s).at ≡ (meaning x.replica).live.at

-- what stands in it is as it was, and the texts are just those of which P says so
pub record ShowsThere (s t : Snapshot) (P : List ℕ → Type 0) : Type 0 where
  pub same : t.store ≡ s.store
  pub lists : Lists P (shown t.texts)

-- what stands in it is as it was; the texts are keys at which the older one has something else, and unless pages or values clash all of them
pub record TellsSince (older s t : Snapshot) : Type 0 where
  pub same : t.store ≡ s.store
  pub ascending : IsAscending (shown t.texts)
  pub changed : (key : List ℕ) → Contains (shown t.texts) key → IsChanged older.store.1 s.store.1 key
  pub all : NoClash fnv1a older.store.1 s.store.1 [] → (key : List ℕ) → IsChanged older.store.1 s.store.1 key → Contains (shown t.texts) key
