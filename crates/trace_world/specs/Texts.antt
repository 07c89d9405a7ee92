-- The texts of a line. Of this project.
use Rattle.std.specs.Prelude.{ℕ, Bool, nat_le, List, length}
use Rattle.dots.specs.Bytes.{MAX_LENGTH}

-- whether these bytes can be a key, a field or a value
abbrev pub is_short : List ℕ → Bool
is_short bytes = nat_le (length bytes) MAX_LENGTH
