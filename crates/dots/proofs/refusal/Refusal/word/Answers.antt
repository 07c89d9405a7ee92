use Rattle.std.specs.Prelude.{refl}
use Rattle.dots.proofs.refusal.Refusal.word.Goals as goal

-- src/refusal.rt
pub returns-in-NoPlace : goal.returns-in-NoPlace
returns-in-NoPlace c = rw c.in-NoPlace.is refl
