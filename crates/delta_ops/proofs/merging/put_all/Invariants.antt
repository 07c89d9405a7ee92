use Rattle.std.proofs.Common.{◌≡◌, ◌++◌}
use Rattle.std.specs.Vec.Iter.{into_iter_items}
use Rattle.delta_ops.proofs.ByKeys.{ArePut}
use Rattle.delta_ops.proofs.merging.put_all.Given as goal

abbrev pub invariant-loop-key : goal.invariant-loop-key
invariant-loop-key g l = (l.yielded ++ into_iter_items l.key-iterator ≡ l.fn.entries.items) × ArePut l.fn.stores.entries l.yielded l.stores.entries
