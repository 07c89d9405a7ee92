use Rattle.std.proofs.Common.{◌∙◌}
use Rattle.delta_ops.proofs.Merged.{pair_read}
use Rattle.delta_ops.proofs.merging.pair_of.Goals as goal

pub returns-in-Some-clause-ok : goal.returns-in-Some-clause-ok
returns-in-Some-clause-ok g c =
    pair_read c.from_parts.result c.in-Some.store c.args.stores.entries c.in_ok-all.all c.args.known.now c.args.gone.now
    (c.in-Some.ensures.stores ∙ c.in_ok-entries.ensures) c.in_ok-all.ensures.ok c.from_parts.ensures.pair
