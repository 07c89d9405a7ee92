-- Runs of dots in a cloud: what closing a gap folds into the vector. Of this project.
use Rattle.std.specs.Prelude.{◌≡◌, ℕ, ◌+◌, ◌<◌, ◌≤◌, nat_lt, nat_le, ◌==◌, ◌&&◌, Bool, false, IsTrue}
use Rattle.dots.specs.Dot.{DotValue}

-- whether d has the name of the dot, and a number above it and up to the end
abbrev pub is_in_run : DotValue → ℕ → DotValue → Bool
is_in_run dot end d = (dot.name == d.name) && (nat_lt dot.number d.number && nat_le d.number end)

-- the dots of this name just above the dot follow on one another up to the end, and no further
pub record IsRunEnd (test : DotValue → Bool) (dot : DotValue) (end : ℕ) : Type 0 where
  pub from : dot.number ≤ end
  pub run : (m : ℕ) → dot.number < m → m ≤ end → IsTrue (test (record { name = dot.name; number = m }))
  pub stops : test (record { name = dot.name; number = end + 1 }) ≡ false
