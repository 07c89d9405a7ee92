-- The summary of entries by word, as three calls make it: of one key, of keys with equal hashes, and of a branch from
-- the summaries of its children. It is told by the entries alone, so equal maps have equal summaries. Of this project.
use Rattle.std.specs.Prelude.{ℕ, zero, suc, List, [], ◌∷◌, cond, nat_eq, get_or, drop}
use Rattle.std.specs.declared.option.Option.{Option}
use Rattle.std.specs.declared.option.Option.TheVariants.{None, Some}
use Rattle.hash_path.specs.Word.{key_in}
use Rattle.hash_path.specs.Map.{by_key}

-- the three calls. A list is by key bytes, the children of a branch are by index
pub record SummaryCalls (V M : Type 0) : Type 0 where
  pub leaf : List ℕ → V → M
  pub list : List (List ℕ × V) → M
  pub branch : List (ℕ × M) → M

-- the entries whose word begins with an index, without it
abbrev pub under_index : {V : Type 0} → ℕ → List (List ℕ × V) → List (List ℕ × V)
under_index i [] = []
under_index i (e ∷ es) = cond (nat_eq i (get_or e.0 0 0)) ((drop 1 e.0, e.1) ∷ under_index i es) (under_index i es)

-- and those whose word begins with a prefix, without it
abbrev pub under_prefix : {V : Type 0} → List ℕ → List (List ℕ × V) → List (List ℕ × V)
under_prefix [] es = es
under_prefix (i ∷ p) es = under_prefix p (under_index i es)

-- of so many indices from a first one on, those that have a summary
abbrev pub one_present : {M : Type 0} → ℕ → Option M → List (ℕ × M) → List (ℕ × M)
one_present i None rest = rest
one_present i (Some m) rest = (i, m) ∷ rest

abbrev pub present : {M : Type 0} → ℕ → ℕ → (ℕ → Option M) → List (ℕ × M)
present i zero summary = []
present i (suc count) summary = one_present i (summary i) (present (suc i) count summary)

-- the summary of the entries below a node of this height: no key has none, one key is a leaf at any height
abbrev pub summary_of : {V M : Type 0} → SummaryCalls V M → ℕ → List (List ℕ × V) → Option M
summary_of c height [] = None
summary_of c height (e ∷ []) = Some (c.leaf (key_in height e.0) e.1)
summary_of c zero (e ∷ f ∷ es) = Some (c.list (by_key 0 (e ∷ f ∷ es)))
summary_of c (suc below) (e ∷ f ∷ es) = Some (c.branch (present 0 32 (λ i. summary_of c below (under_index i (e ∷ f ∷ es)))))

-- the summary of those whose word begins with a prefix
abbrev pub summary_at : {V M : Type 0} → SummaryCalls V M → List ℕ → ℕ → List (List ℕ × V) → Option M
summary_at c [] height es = summary_of c height es
summary_at c (i ∷ p) zero es = None
summary_at c (i ∷ p) (suc below) es = summary_at c p below (under_index i es)

-- the summaries of the children of a branch, of those that have one
abbrev pub sums : {V M : Type 0} → (List (List ℕ × V) → Option M) → List (ℕ × List (List ℕ × V)) → List (ℕ × M)
sums summary [] = []
sums summary (c ∷ cs) = one_present c.0 (summary c.1) (sums summary cs)
