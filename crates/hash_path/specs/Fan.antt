-- A branch as a list of children: each has an index and the entries below it. After Prokopec, Bronson, Bagwell and
-- Odersky (2012): the bitmap has a bit for each index that has a child, and a child's position among the packed
-- children is the number of bits below its own.
use Rattle.std.specs.Prelude.{ℕ, suc, ◌+◌, ◌^◌, ◌<◌, ◌≤◌, Bool, true, false, List, [], ◌∷◌, ◌++◌, map}
use Rattle.std.specs.FinMap.Entries.{by_order}
use Rattle.std.specs.Ordering.{nat_cmp}

-- the entries of a child, with its index in front of each word
abbrev pub under : {V : Type 0} → ℕ → List (List ℕ × V) → List (List ℕ × V)
under index es = map (λ e. (index ∷ e.0, e.1)) es

-- the entries of all children, in order
abbrev pub fan : {V : Type 0} → List (ℕ × List (List ℕ × V)) → List (List ℕ × V)
fan [] = []
fan (c ∷ cs) = under c.0 c.1 ++ fan cs

-- the bitmap
abbrev pub bits_of : {V : Type 0} → List (ℕ × List (List ℕ × V)) → ℕ
bits_of [] = 0
bits_of (c ∷ cs) = 2 ^ c.0 + bits_of cs

-- the indices ascend from the low one on, and are below 32, whatever stands with each
abbrev pub Rise : {X : Type 0} → ℕ → List (ℕ × X) → Type 0
Rise low [] = Unit {0}
Rise low (c ∷ cs) = (low ≤ c.0) × (c.0 < 32) × Rise (suc c.0) cs

-- the position of an index among the children, whether it is there, and its entries
abbrev pub place : {V : Type 0} → ℕ → List (ℕ × List (List ℕ × V)) → ℕ
place i [] = 0
place i (c ∷ cs) = by_order (nat_cmp i c.0) 0 0 (suc (place i cs))

abbrev pub there : {V : Type 0} → ℕ → List (ℕ × List (List ℕ × V)) → Bool
there i [] = false
there i (c ∷ cs) = by_order (nat_cmp i c.0) false true (there i cs)

abbrev pub at : {V : Type 0} → ℕ → List (ℕ × List (List ℕ × V)) → List (List ℕ × V)
at i [] = []
at i (c ∷ cs) = by_order (nat_cmp i c.0) [] c.1 (at i cs)

-- the children with these entries at an index
abbrev pub put_child : {V : Type 0} → ℕ → List (List ℕ × V) → List (ℕ × List (List ℕ × V)) → List (ℕ × List (List ℕ × V))
put_child i es [] = (i, es) ∷ []
put_child i es (c ∷ cs) = by_order (nat_cmp i c.0) ((i, es) ∷ c ∷ cs) ((c.0, es) ∷ cs) (c ∷ put_child i es cs)
