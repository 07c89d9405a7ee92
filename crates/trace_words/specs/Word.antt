-- The words of a trace's lines: numbers and texts. Of this project; hexadecimal digits are those of RFC 4648.
use Rattle.std.specs.Prelude.{ℕ, ◌+◌, ◌-◌, ◌*◌, ◌^◌, ◌==◌, ◌&&◌, nat_lt, not, Bool, false, cond, List, [], ◌∷◌, Option, Some, None}
use Rattle.std.specs.Char.{is_ascii_digit}
use Rattle.std.specs.List.{slice_split, list_all}
use Rattle.std.specs.Result.{result_ok}
use Rattle.dots.specs.Printed.{is_plain, is_visible}
use Rattle.hex.specs.Hex.{decode_of, encode_lower}

-- The words of a line, which stand between its spaces. Two spaces together have an empty word between them, which
-- is no word of the language.
abbrev pub words_of : List ℕ → List (List ℕ)
words_of line = slice_split (λ byte. byte == 32) line

-- the number that these digits go on with
abbrev pub value_after : ℕ → List ℕ → ℕ
value_after number [] = number
value_after number (digit ∷ digits) = value_after (number * 10 + (digit - 48)) digits

-- whether a word is decimal digits, of which the first is not 0
abbrev pub is_numeral : List ℕ → Bool
is_numeral [] = false
is_numeral (digit ∷ digits) = not (digit == 48) && list_all is_ascii_digit (digit ∷ digits)

-- the number that a word is: a numeral below 2^64, and so from 1 on
abbrev pub numeral_value : List ℕ → Option ℕ
numeral_value word = cond (is_numeral word && nat_lt (value_after 0 word) (2 ^ 64)) (Some (value_after 0 word)) None

-- the bytes that a text word stands for: itself, or after `#` the bytes of an even number of hexadecimal digits
abbrev pub text_of : List ℕ → Option (List ℕ)
text_of [] = None
text_of (byte ∷ bytes) = cond (byte == 35) (result_ok (decode_of bytes)) (cond (list_all is_visible (byte ∷ bytes)) (Some (byte ∷ bytes)) None)

-- The word that shows these bytes: themselves, or `#` and their digits in lower case.
-- Example: the empty text is shown as `#`.
abbrev pub shown_as : List ℕ → List ℕ
shown_as bytes = cond (is_plain bytes) bytes (35 ∷ encode_lower bytes)
