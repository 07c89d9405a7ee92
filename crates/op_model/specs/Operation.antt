-- The operations of an observed-remove map, after Almeida, Shoker and Baquero, "Delta State Replicated Data
-- Types" (2018) (the optimised observed-remove map and the multi-value register): what one write, or
-- one removal, was, and which writes it had observed.
--
-- A set of operations is a list of them; two lists with the same members are the same set.
-- Example: replica 1 puts x on a under the dot 1:1, and replica 2, which has seen that, puts y there under 2:1:
--   Wrote {1:1, a, x, observed nothing} and Wrote {2:1, a, y, observed 1:1}, a being the place of key a and the empty field.
use Rattle.std.specs.Prelude.{◌≡◌, ℕ, List, [], ◌∷◌, ◌++◌, map, Bool, false, ◌||◌, ◌⊎◌, IsTrue, Contains}
use Rattle.dots.specs.declared.dot.Dot.{Dot}
use Rattle.dots.specs.Dot.{same_dot}
use Rattle.op_model.specs.Place.{Place}

-- a value put at a place under a new dot, with the dots that it observed
pub record Write : Type 0 where
  pub id : Dot
  pub place : Place
  pub value : List ℕ
  pub over : List Dot

-- a write, or an erasure: the dots of the writes that it observed, and so removed
pub data Operation : Type 0 where
  Wrote : Write → Operation
  Erased : List Dot → Operation

-- the writes of a set
abbrev pub writes : List Operation → List Write
writes [] = []
writes (Wrote w ∷ S) = w ∷ writes S
writes (Erased over ∷ S) = writes S

-- the dots that the operations of a set had observed
abbrev pub observed : List Operation → List Dot
observed [] = []
observed (Wrote w ∷ S) = w.over ++ observed S
observed (Erased over ∷ S) = over ++ observed S

-- the dots that one operation had observed
abbrev pub over_of : Operation → List Dot
over_of (Wrote w) = w.over
over_of (Erased over) = over

-- the dots of these writes
abbrev pub ids : List Write → List Dot
ids ws = map (λ w. w.id) ws

-- whether the dot is among these
abbrev pub has : List Dot → Dot → Bool
has [] dot = false
has (d ∷ ds) dot = same_dot d dot || has ds dot

-- all dots that a set tells of: those of its writes, and those that were observed (the causal context)
abbrev pub known : List Operation → List Dot
known S = ids (writes S) ++ observed S

-- the operation wrote under this dot, or had observed it
abbrev pub Tells : Operation → Dot → Type 0
Tells (Wrote w) dot = (w.id ≡ dot) ⊎ IsTrue (has w.over dot)
Tells (Erased over) dot = IsTrue (has over dot)

-- no dot was used twice: two writes under one dot are the same write, and no write observed itself
pub record NoReuse (S : List Operation) : Type 0 where
  pub one_write : (v w : Write) → Contains (writes S) v → Contains (writes S) w → v.id ≡ w.id → v ≡ w
  pub not_itself : (w : Write) → Contains (writes S) w → has w.over w.id ≡ false

-- each operation of the first set is one of the second
abbrev pub IsPartOf : List Operation → List Operation → Type 0
IsPartOf S T = (o : Operation) → Contains S o → Contains T o

-- the same operations, in whatever order and however often
pub record IsSameSet (S T : List Operation) : Type 0 where
  pub there : IsPartOf S T
  pub back : IsPartOf T S
