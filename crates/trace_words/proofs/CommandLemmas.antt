-- The command that a list of words is, by their number.
use Rattle.std.proofs.Common.{◌≡◌, ℕ, ◌<◌, ◌≤◌, List, [], ◌∷◌, length, map, get_or, None, refl, arith}
use Rattle.trace_words.specs.Command.{command_of_words, one_word_command, two_word_command, three_word_command, four_word_command}

pub too_few_words : {W : Type 0} (words : List W) (now : W → List ℕ) → length words < 2 → None ≡ command_of_words (map now words)
too_few_words [] now h = refl
too_few_words (a ∷ []) now h = refl
too_few_words (a ∷ b ∷ words) now h = absurd (omega arith)

pub too_many_words : {W : Type 0} (words : List W) (now : W → List ℕ) → 6 ≤ length words → None ≡ command_of_words (map now words)
too_many_words [] now h = refl
too_many_words (a ∷ []) now h = refl
too_many_words (a ∷ b ∷ []) now h = absurd (omega arith)
too_many_words (a ∷ b ∷ c ∷ []) now h = absurd (omega arith)
too_many_words (a ∷ b ∷ c ∷ d ∷ []) now h = absurd (omega arith)
too_many_words (a ∷ b ∷ c ∷ d ∷ e ∷ []) now h = absurd (omega arith)
too_many_words (a ∷ b ∷ c ∷ d ∷ e ∷ f ∷ words) now h = refl

pub of_one : {W : Type 0} (words : List W) (now : W → List ℕ) (filler : W) → 2 ≤ length words → length words < 3
    → one_word_command (now (get_or words 0 filler)) (now (get_or words 1 filler)) ≡ command_of_words (map now words)
of_one [] now filler h k = absurd (omega arith)
of_one (a ∷ []) now filler h k = absurd (omega arith)
of_one (a ∷ b ∷ []) now filler h k = refl
of_one (a ∷ b ∷ x ∷ words) now filler h k = absurd (omega arith)

pub of_two : {W : Type 0} (words : List W) (now : W → List ℕ) (filler : W) → 3 ≤ length words → length words < 4
    → two_word_command (now (get_or words 0 filler)) (now (get_or words 1 filler)) (now (get_or words 2 filler)) ≡ command_of_words (map now words)
of_two [] now filler h k = absurd (omega arith)
of_two (a ∷ []) now filler h k = absurd (omega arith)
of_two (a ∷ b ∷ []) now filler h k = absurd (omega arith)
of_two (a ∷ b ∷ c ∷ []) now filler h k = refl
of_two (a ∷ b ∷ c ∷ x ∷ words) now filler h k = absurd (omega arith)

pub of_three : {W : Type 0} (words : List W) (now : W → List ℕ) (filler : W) → 4 ≤ length words → length words < 5
    → three_word_command (now (get_or words 0 filler)) (now (get_or words 1 filler)) (now (get_or words 2 filler)) (now (get_or words 3 filler))
    ≡ command_of_words (map now words)
of_three [] now filler h k = absurd (omega arith)
of_three (a ∷ []) now filler h k = absurd (omega arith)
of_three (a ∷ b ∷ []) now filler h k = absurd (omega arith)
of_three (a ∷ b ∷ c ∷ []) now filler h k = absurd (omega arith)
of_three (a ∷ b ∷ c ∷ d ∷ []) now filler h k = refl
of_three (a ∷ b ∷ c ∷ d ∷ x ∷ words) now filler h k = absurd (omega arith)

pub of_four : {W : Type 0} (words : List W) (now : W → List ℕ) (filler : W) → 5 ≤ length words → length words < 6
    → four_word_command (now (get_or words 0 filler)) (now (get_or words 1 filler)) (now (get_or words 2 filler)) (now (get_or words 3 filler))
    (now (get_or words 4 filler)) ≡ command_of_words (map now words)
of_four [] now filler h k = absurd (omega arith)
of_four (a ∷ []) now filler h k = absurd (omega arith)
of_four (a ∷ b ∷ []) now filler h k = absurd (omega arith)
of_four (a ∷ b ∷ c ∷ []) now filler h k = absurd (omega arith)
of_four (a ∷ b ∷ c ∷ d ∷ []) now filler h k = absurd (omega arith)
of_four (a ∷ b ∷ c ∷ d ∷ e ∷ []) now filler h k = refl
of_four (a ∷ b ∷ c ∷ d ∷ e ∷ x ∷ words) now filler h k = absurd (omega arith)
