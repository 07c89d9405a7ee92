use Rattle.std.proofs.Common.{take}
use Rattle.op_model.specs.Meaning.{StandsWithin}
use Rattle.replica_core.specs.Meaning.{meaning}
use Rattle.replica_core.specs.Reading.{Lists}
use Rattle.trace_world.specs.Does.{AddsEntries}
use Rattle.trace_world.proofs.reading.push_keys.Given as goal

abbrev pub invariant-loop-key : goal.invariant-loop-key
invariant-loop-key g l = AddsEntries (λ key. Lists (StandsWithin (meaning l.replica).live key)) (take l.key-index l.keys) l.fn.out.items l.out.items
