-- Prefixes of hash paths and their one spelling. Of this project.
--
-- Example: the prefix of no indices is spelled by 00, and that of the indices 5 and 15 by 02, 05 and 0f.
use Rattle.std.specs.Prelude.{◌≡◌, ℕ, ◌+◌, ◌≤◌, List, ◌∷◌, ◌++◌, length}
use Rattle.hash_path.specs.Path.{AreIndices}

-- the count of the indices in one byte, and then one byte each
abbrev pub prefix : List ℕ → List ℕ
prefix path = length path ∷ path

-- at most seven indices, each from 0 to 31, and the seventh from 0 to 3
pub record IsPrefix (path : List ℕ) : Type 0 where
  pub short : length path ≤ 7
  pub indices : AreIndices 0 path

-- the longer path has one index more, which is the first of the bytes, and the rest of them stays
pub record IsOneLonger (path bytes longer rest : List ℕ) : Type 0 where
  pub more : length longer ≡ length path + 1
  pub moved : longer ++ rest ≡ path ++ bytes
