-- Paths, after Prokopec, Bronson, Bagwell and Odersky, "Concurrent Tries with Efficient Non-Blocking Snapshots" (2012):
-- the index at the level lev is (hash >> lev) & 31, for lev = 0, 5, .. 30. So a hash of 32 bits has seven indices,
-- the last of them from 0 to 3.
use Rattle.std.specs.declared.cmp.Ordering.{Ordering}
use Rattle.std.specs.Ordering.{nat_cmp}
use Rattle.std.specs.Cmp.Lexicographic.{slice_cmp}
use Rattle.std.specs.Prelude.{ℕ, zero, suc, ◌+◌, ◌*◌, ◌/◌, ◌%◌, ◌^◌, ◌≤◌, List, [], ◌∷◌, cond, nat_lt}

-- the index at a depth from 0 to 6
abbrev pub index_in : ℕ → ℕ → ℕ
index_in hash depth = (hash / 2 ^ (5 * depth)) % 32

-- the first indices of a hash, from the lowest bits on
abbrev pub indices : ℕ → ℕ → List ℕ
indices zero bits = []
indices (suc depth) bits = (bits % 32) ∷ indices depth (bits / 32)

-- the least hash with these indices
abbrev pub packed : List ℕ → ℕ
packed [] = 0
packed (index ∷ path) = index + 32 * packed path

-- the greatest index that a child at this depth can have
abbrev pub last_index : ℕ → ℕ
last_index depth = cond (nat_lt depth 6) 31 3

-- each index, from this depth on, is one that a child can have there
abbrev pub AreIndices : ℕ → List ℕ → Type 0
AreIndices depth [] = Unit {0}
AreIndices depth (index ∷ path) = (index ≤ last_index depth) × AreIndices (suc depth) path

-- the order of prefixes: at the first index that differs, and a beginning of a prefix comes before the prefix
abbrev pub prefix_cmp : List ℕ → List ℕ → Ordering
prefix_cmp = slice_cmp nat_cmp
