-- The children of a branch from one on, with a summary each. Of this project.
use Rattle.std.specs.Prelude.{ℕ, List, []}
use Rattle.std.specs.Borrow.{Bor}
use Rattle.std.specs.declared.option.Option.{Option}
use Rattle.std.specs.declared.option.Option.TheVariants.{None, Some}

abbrev pub from : {M : Type 0} → Option (Bor (List (ℕ × M))) → List (ℕ × M)
from None = []
from (Some child) = child.now
