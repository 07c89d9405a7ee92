use Rattle.delta_ops.proofs.Erasing.{erasure_state, erasure_inside, apart}
use Rattle.delta_ops.proofs.Stores.{there_from}
use Rattle.delta_ops.proofs.erasures.erasing.Goals as goal

pub unwrap-delta-requires : goal.unwrap-delta-requires
unwrap-delta-requires g c = there_from c.from_parts.result c.from_parts.ensures.outside.0 (erasure_inside _ _ c.empty.ensures)

pub returns-clause-ok : goal.returns-clause-ok
returns-clause-ok g c =
    let made = rw c.unwrap-delta.ensures at c.from_parts.ensures.pair in (
      rw made (erasure_state _ _ c.args.dots.now.keys c.empty.ensures c.in_ok-context.ensures.ok),
      apart c.args.dots.now.keys c.len-number.ensures.ordered,
      c.len-number.ensures.len,
    )
