use Rattle.std.specs.Prelude.{refl}
use Rattle.dots.proofs.store.Store.try_clone.Goals as goal

-- src/store.rt
pub returns-in-Short-clause-bytes : goal.returns-in-Short-clause-bytes
returns-in-Short-clause-bytes A c = rw c.in-Short.is refl
