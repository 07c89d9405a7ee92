use Rattle.delta_ops.proofs.Erasing.{erasure_inside}
use Rattle.delta_ops.proofs.Stacking.{knowing_context, knowing_nothing}
use Rattle.delta_ops.proofs.Stores.{there_from}
use Rattle.delta_ops.proofs.joining.knowing.Goals as goal

pub unwrap-delta-requires : goal.unwrap-delta-requires
unwrap-delta-requires g c = there_from c.from_parts.result c.from_parts.ensures.outside.0 (erasure_inside c.empty.result c.args.context c.empty.ensures)

pub returns-clause-store : goal.returns-clause-store
returns-clause-store g c =
    knowing_nothing c.new-live.result.0 c.join_delta.new.self.0 c.unwrap-delta.result c.empty.result c.args.context
    (rw c.unwrap-delta.ensures at c.from_parts.ensures.pair) c.empty.ensures c.new-live.ensures.store c.in_ok-join_delta.ensures.ok

pub returns-clause-context : goal.returns-clause-context
returns-clause-context g c =
    knowing_context c.new-live.result.0 c.join_delta.new.self.0 c.unwrap-delta.result c.empty.result c.args.context
    (rw c.unwrap-delta.ensures at c.from_parts.ensures.pair) c.new-live.ensures.context c.in_ok-join_delta.ensures.ok
