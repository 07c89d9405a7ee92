-- The law of what a trace is answered. Of this project. A law is proved where a function of src/ names it.
use Rattle.std.specs.Prelude.{◌≡◌, ℕ, List}
use Rattle.trace_cli.specs.Output.{Given, IsGiven}

-- a trace is given one text, and one fault or none
abbrev pub TracesAreGivenOne : Type 0
TracesAreGivenOne = (input : List ℕ) (given given' : Given) → IsGiven input given → IsGiven input given' → given ≡ given'
