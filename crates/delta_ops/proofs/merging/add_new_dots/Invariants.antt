use Rattle.std.proofs.Common.{take}
use Rattle.causal_context.specs.Context.{in_cloud}
use Rattle.delta_ops.specs.Merging.{AddsNew}
use Rattle.delta_ops.proofs.merging.add_new_dots.Given as goal

abbrev pub invariant-loop-dot : goal.invariant-loop-dot
invariant-loop-dot g l = AddsNew l.fn.gone l.fn.known l.known (in_cloud (take l.dot-index l.dots))
