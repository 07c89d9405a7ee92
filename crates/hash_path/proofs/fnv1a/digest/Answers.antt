use Rattle.std.specs.Prelude.{refl}
use Rattle.hash_path.proofs.fnv1a.digest.Goals as goal

-- src/fnv1a.rt
pub loop-byte-init : goal.loop-byte-init
loop-byte-init c = refl
