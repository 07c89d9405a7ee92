use Rattle.std.proofs.Common.{take}
use Rattle.std.specs.List.{All}
use Rattle.delta_ops.specs.Gathers.{GathersMore, AreEntries}
use Rattle.delta_ops.proofs.Gathering.{values_in}
use Rattle.delta_ops.proofs.reading.gather_fields.Given as goal

abbrev pub invariant-loop-standing : goal.invariant-loop-standing
invariant-loop-standing g l =
    GathersMore l.fn.found.keys l.found.keys (values_in (take l.standing-index l.fields)) × All (λ field. AreEntries field.1) (take l.standing-index l.fields)
