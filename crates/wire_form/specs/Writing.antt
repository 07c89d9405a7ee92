-- What a writer of a field leaves: the spelling of a lawful value behind what was there. Of this project.
use Rattle.std.specs.Prelude.{◌≡◌, ℕ, List, ◌++◌}

pub record Appends {V : Type 0} (spell : V → List ℕ) (Fits : V → Type 0) (old new : List ℕ) (value : V) : Type 0 where
  pub fits : Fits value
  pub parts : new ≡ old ++ spell value
