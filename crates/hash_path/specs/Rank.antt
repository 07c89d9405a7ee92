-- Where a word stands in a list of entries by word. Of this project.
use Rattle.std.specs.Prelude.{ℕ, suc, List, [], ◌∷◌}
use Rattle.std.specs.FinMap.Entries.{by_order}
use Rattle.dots.specs.Bytes.{bytes_cmp}

-- how many entries come before a word, up to the first that does not
abbrev pub rank : {V : Type 0} → List ℕ → List (List ℕ × V) → ℕ
rank w [] = 0
rank w (e ∷ es) = by_order (bytes_cmp w e.0) 0 0 (suc (rank w es))
