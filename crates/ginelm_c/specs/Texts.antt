-- What is read of the texts that a call gave. Of this project.
use Rattle.std.specs.Prelude.{ℕ, List, [], length, Option, Some, None, option_map, ◌==◌, if◌then◌else◌}
use Rattle.std.specs.List.{slice_get}
use Rattle.replica_core.specs.Carrying.{letter_or_none, letters_of}
use Rattle.replica_core.specs.declared.letter.Letter.{Letter}
use Rattle.ginelm_c.specs.declared.texts.Texts.{Texts}
use Rattle.ginelm_c.specs.declared.texts.Texts.TheVariants as given

abbrev pub number_or_zero : Option ℕ → ℕ
number_or_zero None = 0
number_or_zero (Some n) = n

abbrev pub alone_at : {A : Type 0} → Option (Letter A) → ℕ → Option (List ℕ)
alone_at None at = None
alone_at (Some l) at = if at == 0 then Some l.bytes.items else None

abbrev pub addressee_of : {A : Type 0} → Option (Letter A) → ℕ
addressee_of None = 0
addressee_of (Some l) = number_or_zero l.to

-- how many texts there are, what the one at a place is, and whom it is for, or 0
abbrev pub count_in : Texts → ℕ
count_in given.Nothing = 0
count_in (given.Values vs) = length vs.items
count_in (given.Keys ks) = length ks.items
count_in (given.Fields fs) = length fs.items
count_in (given.Sent l) = length (letter_or_none l)
count_in (given.Letters ls) = length ls.items
count_in (given.Saved s) = 1

abbrev pub bytes_at : Texts → ℕ → Option (List ℕ)
bytes_at given.Nothing at = None
bytes_at (given.Values vs) at = slice_get vs.items at
bytes_at (given.Keys ks) at = slice_get ks.items at
bytes_at (given.Fields fs) at = slice_get fs.items at
bytes_at (given.Sent l) at = alone_at l at
bytes_at (given.Letters ls) at = option_map (λ l. l.bytes.items) (slice_get ls.items at)
bytes_at (given.Saved s) at = if at == 0 then Some s.items else None

abbrev pub addressee_at : Texts → ℕ → ℕ
addressee_at (given.Sent l) at = addressee_of l
addressee_at (given.Letters ls) at = addressee_of (slice_get ls.items at)
addressee_at other at = 0

-- what a read gave, what a call sends, and what was saved
abbrev pub shown : Texts → List (List ℕ)
shown (given.Values vs) = vs.items
shown (given.Keys ks) = ks.items
shown (given.Fields fs) = fs.items
shown other = []

abbrev pub letters_in : Texts → List (Option ℕ × List ℕ)
letters_in (given.Sent l) = letter_or_none l
letters_in (given.Letters ls) = letters_of ls.items
letters_in other = []

abbrev pub saved_in : Texts → List ℕ
saved_in (given.Saved s) = s.items
saved_in other = []
