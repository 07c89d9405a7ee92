use Rattle.std.proofs.Common.{◌≡◌, take}
use Rattle.std.specs.Prelude.{IsTrue}
use Rattle.dots.specs.Dot.{DotValue}
use Rattle.causal_context.specs.Context.{has, in_cloud}
use Rattle.replica_core.proofs.guarding.lacks_of.Given as goal

abbrev pub invariant-loop-dot : goal.invariant-loop-dot
invariant-loop-dot g l = (d : DotValue) → IsTrue (in_cloud (take l.dot-index l.dot-items) d) → d.name ≡ l.name → IsTrue (has l.own d)
