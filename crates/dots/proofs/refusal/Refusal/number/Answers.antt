use Rattle.std.specs.Prelude.{refl}
use Rattle.dots.proofs.refusal.Refusal.number.Goals as goal

-- src/refusal.rt
pub returns-in-TooLong : goal.returns-in-TooLong
returns-in-TooLong c = rw c.in-TooLong.is refl
