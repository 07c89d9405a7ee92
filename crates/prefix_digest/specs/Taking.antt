-- How a hasher takes in the parts of a page.
use Rattle.std.specs.Prelude.{ℕ, List, ◌++◌}
use Rattle.sha2.specs.Hashers.{Holds256}
use Rattle.sha2.specs.declared.Sha256.{Sha256}

-- whatever the old one held, the new one holds it with these bytes behind
abbrev pub TakesBytes : Sha256 → Sha256 → List ℕ → Type 0
TakesBytes old new bytes = (held : List ℕ) → Holds256 old held → Holds256 new (held ++ bytes)
