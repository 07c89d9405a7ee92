-- The states of causal dot stores, dot by dot, after Almeida, Shoker and Baquero, "Delta State Replicated
-- Data Types" (2018): causal contexts, dot stores and the causal join.
--
-- A dot store is read as what stands at each place and dot: nothing, or a held value. A place is the path of
-- keys that leads there, and is of the type `Unit` in a store with no keys.
-- Example: the store {a -> {1:1 -> x}} has Some x at the place a and the dot 1:1, and None elsewhere.
use Rattle.std.specs.Prelude.{◌≡◌, Bool, cond, ◌||◌, Option, Some, None, IsTrue, IsSome}
use Rattle.dots.specs.declared.dot.Dot.{Dot}

-- what stands at each place and dot, and which dots are known (the causal context)
pub record State (P H : Type 0) : Type 0 where
  pub at : P → Dot → Option H
  pub has : Dot → Bool

-- The causal join at one place and dot, from what stands on the two sides and whether each side knows the dot.
-- A dot of both sides keeps the greater value. A dot of one side alone is kept exactly where the other side does
-- not know it: a side that knows a dot and does not hold it has seen it removed.
abbrev pub joined : {H : Type 0} → (H → H → H) → Option H → Bool → Option H → Bool → Option H
joined greater (Some x) own (Some y) theirs = Some (greater x y)
joined greater (Some x) own None theirs = cond theirs None (Some x)
joined greater None own (Some y) theirs = cond own None (Some y)
joined greater None own None theirs = None

-- the causal join of two states: pointwise, with the union of what they know
abbrev pub join : {P H : Type 0} → (H → H → H) → State P H → State P H → State P H
join greater p q = record {
  at = λ place dot. joined greater (p.at place dot) (p.has dot) (q.at place dot) (q.has dot);
  has = λ dot. p.has dot || q.has dot;
}

-- the two states hold the same everywhere and know the same dots
pub record Same {P H : Type 0} (p q : State P H) : Type 0 where
  pub at : (place : P) (dot : Dot) → p.at place dot ≡ q.at place dot
  pub has : (dot : Dot) → p.has dot ≡ q.has dot

-- each dot that stands somewhere is known: the states that occur
abbrev pub IsInside : {P H : Type 0} → State P H → Type 0
IsInside {P} {H} p = (place : P) (dot : Dot) → IsSome (p.at place dot) → IsTrue (p.has dot)
