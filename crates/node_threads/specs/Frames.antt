-- How bytes go over a stream. Of this project.
use Rattle.std.specs.Prelude.{ℕ, List, ◌++◌, length}
use Rattle.std.specs.Int.{to_be_bytes, w32, w64}

-- a frame: the number of its bytes, four bytes with the highest first, and these bytes
abbrev pub framed : List ℕ → List ℕ
framed bytes = to_be_bytes w32 (length bytes) ++ bytes

-- the bytes that go to the replica of a name: the name, eight bytes with the highest first, and these bytes
abbrev pub addressed : ℕ → List ℕ → List ℕ
addressed to bytes = to_be_bytes w64 to ++ bytes
