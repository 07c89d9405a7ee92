-- What a put makes of a handle. Of this project.
use Rattle.std.specs.Prelude.{◌≡◌, ℕ, List}
use Rattle.dots.specs.Dot.{DotValue}
use Rattle.op_model.specs.Place.{Place}
use Rattle.replica_model.specs.Step.{Do, Put, Made}
use Rattle.ginelm_c.specs.declared.held.Held.{Held}
use Rattle.ginelm_c.specs.Handling.{Makes}

-- the replica wrote the value at the place by a dot of this number
abbrev pub Puts : Held → Held → Place → List ℕ → ℕ → Type 0
Puts x y place value number = (dot : DotValue) × (dot.number ≡ number) × Makes x y (Do (Put place value)) (Made dot)
