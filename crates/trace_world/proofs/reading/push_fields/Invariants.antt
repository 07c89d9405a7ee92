use Rattle.std.proofs.Common.{take}
use Rattle.op_model.specs.Meaning.{Stands}
use Rattle.op_model.specs.Place.{place_of}
use Rattle.replica_core.specs.Meaning.{meaning}
use Rattle.replica_core.specs.Reading.{Lists}
use Rattle.trace_world.specs.Does.{AddsEntries}
use Rattle.trace_world.proofs.reading.push_fields.Given as goal

abbrev pub invariant-loop-field : goal.invariant-loop-field
invariant-loop-field g l = AddsEntries (λ field. Lists (Stands (meaning l.replica).live (place_of l.key field))) (take l.field-index l.fields)
    l.fn.out.items l.out.items
