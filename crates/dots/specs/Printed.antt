-- How names, dots and texts are printed. Of this project; hexadecimal digits are those of RFC 4648.
use Rattle.std.specs.Prelude.{ℕ, ◌+◌, ◌/◌, ◌%◌, ◌==◌, ◌&&◌, ◌++◌, nat_lt, nat_le, not, Bool, false, cond, List, [], ◌∷◌}
use Rattle.std.specs.Fmt.{decimal}
use Rattle.std.specs.List.{flat_map, list_all}
use Rattle.dots.specs.Dot.{DotValue}

-- a dot: its name, a colon and its number, in decimal digits
abbrev pub dot_text : DotValue → List ℕ
dot_text d = decimal d.name ++ 58 ∷ decimal d.number

-- the digit of a number below 16, from `0` to `9` and from `a` to `f`
abbrev pub hex_digit : ℕ → ℕ
hex_digit n = cond (nat_lt n 10) (48 + n) (87 + n)

-- the two digits of a byte
abbrev pub hex_of : ℕ → List ℕ
hex_of byte = hex_digit (byte / 16) ∷ hex_digit (byte % 16) ∷ []

-- whether a byte is printed as itself: it is a visible one of ASCII
abbrev pub is_visible : ℕ → Bool
is_visible byte = nat_le 33 byte && nat_le byte 126

-- whether a text is printed as itself: it has a byte, each is visible, and the first is not `#`
abbrev pub is_plain : List ℕ → Bool
is_plain [] = false
is_plain (byte ∷ bytes) = not (byte == 35) && list_all is_visible (byte ∷ bytes)

-- A text: itself, or `#` and the digits of its bytes. The empty text is `#`, and the one of a space is `#20`.
abbrev pub printed : List ℕ → List ℕ
printed bytes = cond (is_plain bytes) bytes (35 ∷ flat_map hex_of bytes)
