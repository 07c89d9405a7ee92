-- Entries by word with one word cut out. Of this project.
use Rattle.std.specs.Prelude.{ℕ, suc, not, cond, List, [], ◌∷◌}
use Rattle.std.specs.Ordering.{nat_cmp, eq_by_cmp}
use Rattle.std.specs.FinMap.Entries.{by_order, where_key}
use Rattle.dots.specs.Bytes.{bytes_cmp}

-- the entries whose words do not tie with the word
abbrev pub cut : {V : Type 0} → List ℕ → List (List ℕ × V) → List (List ℕ × V)
cut w = where_key bytes_cmp (λ x. not (eq_by_cmp bytes_cmp w x))

-- the children but that of an index
abbrev pub without : {V : Type 0} → ℕ → List (ℕ × List (List ℕ × V)) → List (ℕ × List (List ℕ × V))
without i [] = []
without i (c ∷ cs) = by_order (nat_cmp i c.0) (c ∷ cs) cs (c ∷ without i cs)

-- the position of the first entry whose word ties with the word, or their number
abbrev pub spot : {V : Type 0} → List ℕ → List (List ℕ × V) → ℕ
spot w [] = 0
spot w (e ∷ es) = cond (eq_by_cmp bytes_cmp w e.0) 0 (suc (spot w es))
