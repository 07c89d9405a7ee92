use Rattle.std.specs.Prelude.{refl}
use Rattle.hash_path.proofs.prefix.Prefix.root.Goals as goal

-- src/prefix.rt
pub returns : goal.returns
returns c = refl
