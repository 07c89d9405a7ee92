-- The lines of a text. Of this project.
use Rattle.std.specs.List.{onto_first}
use Rattle.std.specs.Prelude.{◌≡◌, ℕ, ◌==◌, ◌||◌, Bool, true, false, cond, List, [], ◌∷◌, ◌++◌}

-- The lines of a text, which end with the byte 10. A last line without it counts where it has a byte.
-- Example: the lines of "ab\n\nc" are "ab", "" and "c".
abbrev pub lines_of : List ℕ → List (List ℕ)
lines_of [] = []
lines_of (byte ∷ rest) = cond (byte == 10) ([] ∷ lines_of rest) (onto_first byte (lines_of rest))

-- whether a line ends in the bytes
abbrev pub has_newline : List ℕ → Bool
has_newline [] = false
has_newline (byte ∷ bytes) = (byte == 10) || has_newline bytes

-- whether the bytes are whole lines: none, or some whose last is the end of a line
abbrev pub ends_line_after : ℕ → List ℕ → Bool
ends_line_after byte [] = byte == 10
ends_line_after byte (next ∷ bytes) = ends_line_after next bytes

abbrev pub ends_line : List ℕ → Bool
ends_line [] = true
ends_line (byte ∷ bytes) = ends_line_after byte bytes

-- the whole lines of what was read: what comes after them has no end
pub record IsWholeLinesOf (whole read : List ℕ) : Type 0 where
  pub rest : List ℕ
  pub parts : read ≡ whole ++ rest
  pub ends : ends_line whole ≡ true
  pub no_end : has_newline rest ≡ false
