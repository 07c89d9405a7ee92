use Rattle.std.specs.Prelude.{refl}
use Rattle.dots.proofs.text.Text.empty.Goals as goal

-- src/text.rt
pub returns : goal.returns
returns A c = refl
