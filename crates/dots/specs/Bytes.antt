-- Keys, fields and values, in bytes. The limit is this project's own.
use Rattle.std.specs.Prelude.{ℕ, List}
use Rattle.std.specs.declared.cmp.Ordering.{Ordering}
use Rattle.std.specs.Ordering.{nat_cmp}
use Rattle.std.specs.Cmp.Lexicographic.{slice_cmp}

-- the greatest length of a key, a field or a value
abbrev pub MAX_LENGTH : ℕ
MAX_LENGTH = 65535

-- their order, by bytes: at the first byte that differs, and a beginning of a text comes before the text
abbrev pub bytes_cmp : List ℕ → List ℕ → Ordering
bytes_cmp = slice_cmp nat_cmp
