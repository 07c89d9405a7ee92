-- The book of a cell, which has its list of events. Of this project, over the book of `logbook`: a log that only grows, with words
-- that are tied to it by a rule.
use Rattle.std.specs.Prelude.{ℕ, ◌≡◌, ◌==◌, true, List, [], ◌∷◌, ◌++◌, length, MatchBool}
use Rattle.logbook.specs.Pages.{Cell, Step, View, Book, Named, Nib, nib, may_make_home}

-- The first word is the number of the events. A book has two words, of which this one leaves the second at 0: after two
-- events they are 2 and 0.
abbrev pub IsCounted : {E : Type 0} → List Cell → List E → Type 0
IsCounted cells log = cells ≡ (length log, true) ∷ (0, true) ∷ []

-- The first word of a book.
abbrev pub head_of : Book → Named
head_of b = record { tracked = true; key = 0; book = b }

-- The right to make the second word, which there is once.
abbrev pub spare_nib : Nib
spare_nib = nib may_make_home 1 0

-- What the step of adding tells: the event was added to all that had been seen; or the list was longer, and was seen.
abbrev pub AddsEvent : {E : Type 0} → Step E → View E ℕ → ℕ → View E ℕ → Type 0
AddsEvent s v found w = MatchBool (found == s.old) (w.0 ≡ v.0 ++ s.ask ∷ []) (length w.0 ≡ found)
