-- The join is the later of the two lives.
use Rattle.std.proofs.Common.{◌≡◌, refl, Bool, true, false, ◌||◌, Option, Some, None}
use Rattle.dots.specs.declared.dot.Dot.{Dot}
use Rattle.op_model.specs.State.{State, joined, join}
use Rattle.op_model.specs.Life.{life_of, life, later}

later_life : {H : Type 0} (greater : H → H → H) (a : Option H) (s : Bool) (b : Option H) (t : Bool) →
    life_of (joined greater a s b t) (s || t) ≡ later greater (life_of a s) (life_of b t)
later_life greater (Some x) s (Some y) t = refl
later_life greater (Some x) true None true = refl
later_life greater (Some x) false None true = refl
later_life greater (Some x) s None false = refl
later_life greater None true (Some y) t = refl
later_life greater None false (Some y) t = refl
later_life greater None true None true = refl
later_life greater None true None false = refl
later_life greater None false None true = refl
later_life greater None false None false = refl

pub life-join : {P H : Type 0} (greater : H → H → H) (p q : State P H) (place : P) (dot : Dot) →
    life (join greater p q) place dot ≡ later greater (life p place dot) (life q place dot)
life-join greater p q place dot = later_life greater (p.at place dot) (p.has dot) (q.at place dot) (q.has dot)
