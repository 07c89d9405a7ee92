-- How a call that writes answers leaves the writer. Of this project.
use Rattle.std.specs.Prelude.{◌≡◌, ◌≢◌, Result, MatchResult}
use Rattle.dots.specs.declared.refusal.Refusal.{Refusal}
use Rattle.dots.specs.declared.refusal.Refusal.TheVariants.{Output}
use Rattle.trace_cli.specs.declared.watched.Watched.{Watched}
use Rattle.trace_cli.specs.Watched.{IsSettled, IsBroken}

-- a refusal leaves the writer broken where it is Output, and else sound
pub record LeftBy {W : Type 0} (refusal : Refusal) (writer : Watched W) : Type 0 where
  pub broken : refusal ≡ Output → IsBroken writer
  pub sound : refusal ≢ Output → IsSettled writer

-- how an outcome leaves the writer
abbrev pub LeavesWriter : {W T : Type 0} → Result T Refusal → Watched W → Type 0
LeavesWriter result writer = MatchResult result (λ _. IsSettled writer) (λ refusal. LeftBy refusal writer)
