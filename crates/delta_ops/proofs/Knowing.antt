-- The context of what stands in a store of one place.
use Rattle.std.proofs.Common.{◌≡◌, Bool, true, false, Option, Some, None, is_some, Result, Ok, Err, refl, sym, ap, ◌∙◌}
use Rattle.std.specs.Prelude.{IfOk, IsSome, IsTrue}
use Rattle.dots.specs.Dot.{DotValue}
use Rattle.dot_store.specs.Store.{HoldsDot}

no_truth : false ≡ true → ⊥
no_truth e = absurd cc

same_test : {V : Type 0} (b : Bool) (o : Option V) → (IsTrue b → IsSome o) → (IsSome o → IsTrue b) → b ≡ is_some o
same_test true (Some v) only all = refl
same_test true None only all = sym (only refl)
same_test false (Some v) only all = absurd (no_truth (all refl))
same_test false None only all = refl

pub knows_standing : {X E V : Type 0} (knows : X → DotValue → Bool) (at : Unit {0} → DotValue → Option V) (r : Result X E)
    → IfOk r (λ x. (d : DotValue) → IsTrue (knows x d) → HoldsDot at d)
    → IfOk r (λ x. (place : Unit {0}) (d : DotValue) → IsSome (at place d) → IsTrue (knows x d))
    → (held : DotValue → Option V) → ((d : DotValue) → held d ≡ at tt d) → IfOk r (λ x. (d : DotValue) → knows x d ≡ is_some (held d))
knows_standing knows at (Ok x) only all held same = λ d. same_test (knows x d) (at tt d) (λ t. (only d t).1) (all tt d) ∙ ap is_some (sym (same d))
knows_standing knows at (Err e) only all held same = tt
