use Rattle.std.specs.Prelude.{refl}
use Rattle.ctrie_api.proofs.ctrie.Ctrie.new.Goals as goal

-- src/ctrie.rt
pub returns : goal.returns
returns g c = rw c.new.ensures refl
