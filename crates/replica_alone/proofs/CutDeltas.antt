-- The join of the deltas that wait: one more is joined to it, one alone is itself, and one that knows no dot is none.
use Rattle.std.proofs.Common.{◌≡◌, ℕ, List, [], ◌∷◌, ◌++◌, fold, Bool, true, false, ◌||◌, Option, Some, None, refl, sym, ap, ◌∙◌}
use Rattle.std.specs.Prelude.{IsSome, IsTrue}
use Rattle.std.proofs.lemmas.Bool.{false≢true}
use Rattle.std.proofs.lemmas.List.Sums.{fold-append}
use Rattle.op_model.specs.Meaning.{MapState, greater, state}
use Rattle.op_model.specs.State.{joined, join, IsInside}
use Rattle.op_model.proofs.Making.{state-inside}
use Rattle.replica_model.specs.Step.{KnowsNone}
use Rattle.replica_model.proofs.States.{same_is}
use Rattle.replica_alone.specs.Waiting.{all_of}

-- ---- one more, and one alone

-- the join of these and of one more
pub all_of_more : (ws : List MapState) (delta : MapState) → all_of (ws ++ delta ∷ []) ≡ join greater (all_of ws) delta
all_of_more ws delta = fold-append (λ (group d : MapState). join greater group d) (state []) ws (delta ∷ [])

-- at one place and dot, and at one dot, of which the other state tells nothing
left_alone : (x : Option (List ℕ)) (knows : Bool) → joined greater None false x knows ≡ x
left_alone (Some x) knows = refl
left_alone None knows = refl

right_alone : (x : Option (List ℕ)) (knows : Bool) → joined greater x knows None false ≡ x
right_alone (Some x) knows = refl
right_alone None knows = refl

known_alone : (b : Bool) → (b || false) ≡ b
known_alone true = refl
known_alone false = refl

-- the state of no operation joins in nothing, from either side
pub join_before : (p : MapState) → join greater (state []) p ≡ p
join_before p = same_is (join greater (state []) p) p (record { at = λ place dot. left_alone (p.at place dot) (p.has dot); has = λ dot. refl })

pub join_behind : (p : MapState) → join greater p (state []) ≡ p
join_behind p =
    same_is (join greater p (state [])) p (record { at = λ place dot. right_alone (p.at place dot) (p.has dot); has = λ dot. known_alone (p.has dot) })

-- one delta is the join of itself
pub all_of_one : (delta : MapState) → all_of (delta ∷ []) ≡ delta
all_of_one delta = join_before delta

-- ---- what stands is known

-- at one place and dot
stands_known : (x y : Option (List ℕ)) (own theirs : Bool) → (IsSome x → IsTrue own) → (IsSome y → IsTrue theirs)
    → IsSome (joined greater x own y theirs) → IsTrue (own || theirs)
stands_known x y true theirs f g h = refl
stands_known (Some x) y false theirs f g h = absurd (false≢true (f refl))
stands_known None (Some y) false theirs f g h = g refl
stands_known None None false theirs f g h = absurd (false≢true h)

-- in the join of two such states, too
pub join_inside : (p q : MapState) → IsInside p → IsInside q → IsInside (join greater p q)
join_inside p q f g place dot h = stands_known (p.at place dot) (q.at place dot) (p.has dot) (q.has dot) (f place dot) (g place dot) h

-- all that stands in each of these is known there
abbrev pub AreInside : List MapState → Type 0
AreInside [] = Unit {0}
AreInside (delta ∷ ws) = IsInside delta × AreInside ws

-- joined to a state with that they are one with that
fold_inside : (ws : List MapState) (group : MapState) → IsInside group → AreInside ws → IsInside (fold (λ (g d : MapState). join greater g d) group ws)
fold_inside [] group f are = f
fold_inside (delta ∷ ws) group f (first, are) = fold_inside ws (join greater group delta) (join_inside group delta f first) are

-- so it is in their join
pub all_inside : (ws : List MapState) → AreInside ws → IsInside (all_of ws)
all_inside ws are = fold_inside ws (state []) (state-inside []) are

-- in these and one more, and in each part of these
pub inside_more : (ws : List MapState) (delta : MapState) → AreInside ws → IsInside delta → AreInside (ws ++ delta ∷ [])
inside_more [] delta are f = (f, tt)
inside_more (d ∷ ws) delta (first, are) f = (first, inside_more ws delta are f)

pub inside_parts : (first ws : List MapState) → AreInside (first ++ ws) → AreInside first × AreInside ws
inside_parts [] ws are = (tt, are)
inside_parts (d ∷ first) ws (here, are) = let both = inside_parts first ws are in ((here, both.0), both.1)

-- ---- no dot is known

-- at one place and dot, that is not known
stands_none : (x : Option (List ℕ)) (knows : Bool) → (IsSome x → IsTrue knows) → knows ≡ false → x ≡ None
stands_none (Some x) knows f none = absurd (false≢true (sym none ∙ f refl))
stands_none None knows f none = refl

-- a state that knows no dot is that of no operation
pub nothing_is : (p : MapState) → IsInside p → KnowsNone p → p ≡ state []
nothing_is p f none =
    same_is p (state []) (record { at = λ place dot. stands_none (p.at place dot) (p.has dot) (f place dot) (none dot); has = λ dot. none dot })

-- and joins in nothing
pub join_nothing : (p q : MapState) → IsInside q → KnowsNone q → join greater p q ≡ p
join_nothing p q f none = ap (λ x. join greater p x) (nothing_is q f none) ∙ join_behind p
