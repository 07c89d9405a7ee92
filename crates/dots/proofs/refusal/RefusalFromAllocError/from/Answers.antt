use Rattle.std.specs.Prelude.{refl}
use Rattle.dots.proofs.refusal.RefusalFromAllocError.from.Goals as goal

-- src/refusal.rt
pub returns : goal.returns
returns c = refl
