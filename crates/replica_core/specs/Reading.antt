-- What a replica shows: lists of what stands, ascending by bytes, each once. Of this project, over the observed-remove map of multi-value
-- registers of Almeida, Shoker and Baquero, "Delta State Replicated Data Types" (2018).
use Rattle.std.specs.Prelude.{ℕ, List, Contains, ◌↔◌}
use Rattle.op_model.specs.Shown.{IsAscending}

-- these are just those of which P says so
pub record Lists (P : List ℕ → Type 0) (found : List (List ℕ)) : Type 0 where
  pub ascending : IsAscending found
  pub just : (x : List ℕ) → Contains found x ↔ P x
