-- What a read makes of a handle. Of this project.
use Rattle.std.specs.Prelude.{◌≡◌, ◌≤◌, ℕ, List, [], Option, Some, None, IsTrue}
use Rattle.hash_path.specs.Fnv1a.{fnv1a}
use Rattle.op_model.specs.Meaning.{MapState}
use Rattle.prefix_digest.specs.MapOf.{IsMapOf}
use Rattle.prefix_digest.specs.Page.{digest_at}
use Rattle.sync_model.specs.Differ as differ
use Rattle.replica_core.specs.Meaning.{meaning}
use Rattle.replica_core.specs.Reading.{Lists}
use Rattle.ginelm_c.specs.declared.held.Held.{Held}
use Rattle.ginelm_c.specs.Texts.{shown}

-- the replica is as it was, and the texts are just those of which P says so
pub record Shows (x y : Held) (P : List ℕ → Type 0) : Type 0 where
  pub same : y.replica ≡ x.replica
  pub lists : Lists P (shown y.texts)

-- the root digest of the map that stands for a state, or none where that has no key
pub record IsRootDigest (live : MapState) (found : Option (List ℕ)) : Type 0 where
  pub map : differ.Held
  pub is_map : IsMapOf map live
  pub same : found ≡ digest_at fnv1a map []

abbrev pub digest_bytes : Option (List ℕ) → List ℕ
digest_bytes None = []
digest_bytes (Some d) = d

-- the bytes are those of the root digest, or none
pub record ShowsDigest (live : MapState) (bytes : List ℕ) : Type 0 where
  pub found : Option (List ℕ)
  pub is_root : IsRootDigest live found
  pub shown : bytes ≡ digest_bytes found

-- it has seen the write of this number of the replica of this name
abbrev pub Knows : Held → ℕ → ℕ → Type 0
Knows x name number = (1 ≤ name) × (1 ≤ number) × IsTrue ((meaning x.replica).live.has (record { name = name; number = number }))
