use Rattle.delta_ops.proofs.Counted.{counted_keys}
use Rattle.delta_ops.specs.LiveMap.{no_dots}
use Rattle.delta_ops.proofs.reading.size.Goals as goal

pub returns : goal.returns
returns g c = rw (c.size.ensures, c.frozen.ensures.map) (counted_keys (c.args.store.now, no_dots) (rw c.frozen.ensures.map at c.frozen.ensures.filled))
