use Rattle.delta_ops.specs.Gathers.{GathersMore}
use Rattle.delta_ops.proofs.Gathering.{values_before}
use Rattle.delta_ops.proofs.reading.gather_values.Given as goal

abbrev pub invariant-loop-value : goal.invariant-loop-value
invariant-loop-value g l = GathersMore l.fn.found.keys l.found.keys (values_before l.value-index l.value-items)
