-- How far a search for the keys at which two maps differ has come: keys that were found, and prefixes of paths under which it goes on. Of this
-- project.
use Rattle.std.specs.Prelude.{◌≡◌, ◌⊎◌, ℕ, suc, ◌≤◌, List, Contains, length, true}
use Rattle.hash_path.specs.Word.{begins}
use Rattle.hash_path.specs.Map.{path}
use Rattle.op_model.specs.Shown.{IsAscending}
use Rattle.sync_model.specs.Differ.{Held}
use Rattle.map_changes.specs.Changes.{IsChanged}

-- keys were added to those that were found, all of them changed
pub record Finds (older newer : Held) (old new : List (List ℕ)) : Type 0 where
  pub ascending : IsAscending old → IsAscending new
  pub kept : (key : List ℕ) → Contains old key → Contains new key
  pub only : (key : List ℕ) → Contains new key → Contains old key ⊎ IsChanged older newer key

module _ (hash_of : List ℕ → ℕ) where
  -- one of the prefixes begins the key's path
  abbrev pub IsUnder : List (List ℕ) → List ℕ → Type 0
  IsUnder prefixes key = (prefix : List ℕ) × Contains prefixes prefix × (begins prefix (path hash_of key) ≡ true)

  -- each changed key is found, or under one of the prefixes; and so is each under this one
  abbrev pub Covers : Held → Held → List (List ℕ) → List (List ℕ) → Type 0
  Covers older newer found prefixes = (key : List ℕ) → IsChanged older newer key → Contains found key ⊎ IsUnder prefixes key

  abbrev pub CoversAt : Held → Held → List ℕ → List (List ℕ) → List (List ℕ) → Type 0
  CoversAt older newer prefix found prefixes =
      (key : List ℕ) → IsChanged older newer key → begins prefix (path hash_of key) ≡ true → Contains found key ⊎ IsUnder prefixes key

-- the prefixes have this length, which some prefix has
abbrev pub AreLong : ℕ → List (List ℕ) → Type 0
AreLong depth prefixes = (prefix : List ℕ) → Contains prefixes prefix → (length prefix ≡ depth) × (depth ≤ 7)

-- to the prefixes some were added that are one index longer than this one
pub record GoesBelow (prefix : List ℕ) (old new : List (List ℕ)) : Type 0 where
  pub kept : (q : List ℕ) → Contains old q → Contains new q
  pub long : (q : List ℕ) → Contains new q → Contains old q ⊎ ((length q ≡ suc (length prefix)) × (length q ≤ 7))
