-- Another reading of the causal join, of this project: at a place a dot is absent, alive with a value, or dead, and
-- only ever goes on in this order. The join of two states is the later of its two lives.
-- Example: alive with x on one side and dead on the other is dead in the join; alive on one side and absent on the
-- other is alive.
use Rattle.std.specs.Prelude.{Bool, true, false, Option, Some, None}
use Rattle.dots.specs.declared.dot.Dot.{Dot}
use Rattle.op_model.specs.State.{State}

pub data Life (H : Type 0) : Type 0 where
  Absent : Life H
  Alive : H → Life H
  Dead : Life H

-- from what stands there, and whether the dot is known
abbrev pub life_of : {H : Type 0} → Option H → Bool → Life H
life_of (Some x) known = Alive x
life_of None true = Dead
life_of None false = Absent

-- the life of a dot at a place
abbrev pub life : {P H : Type 0} → State P H → P → Dot → Life H
life p place dot = life_of (p.at place dot) (p.has dot)

-- the later of two lives; of two values the greater
abbrev pub later : {H : Type 0} → (H → H → H) → Life H → Life H → Life H
later greater Absent other = other
later greater Dead other = Dead
later greater (Alive x) Absent = Alive x
later greater (Alive x) (Alive y) = Alive (greater x y)
later greater (Alive x) Dead = Dead
