use Rattle.std.proofs.Common.{arith}
use Rattle.live_map.proofs.touching.name_all.Goals as goal

pub returns-clause-there : goal.returns-clause-there
returns-clause-there g c = λ k e below. c.loop-key.invariant.0 k e (omega (arith, below, c.loop-key-test.false))
