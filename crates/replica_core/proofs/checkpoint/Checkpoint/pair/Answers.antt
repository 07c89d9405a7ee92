use Rattle.std.proofs.Common.{◌≡◌, sym, subst}
use Rattle.causal_join.specs.OrMap.{or_map_state}
use Rattle.delta_ops.specs.LiveMap.{live_state}
use Rattle.op_model.specs.State.{Same}
use Rattle.replica_core.proofs.Whole.{whole_same, whole_inside, is_there}
use Rattle.replica_core.proofs.checkpoint.Checkpoint.pair.Goals as goal

pub unwrap-requires : goal.unwrap-requires
unwrap-requires g c =
    is_there c.from_parts.result c.from_parts.ensures.outside
    (whole_inside (c.self.inside.store, c.self.inside.context) (c.in_ok-store.store, c.in-Ok.context)
    c.in_ok-store.ensures.ok c.in-Ok.ensures.equal c.self.invariant)

pub returns-clause-ok : goal.returns-clause-ok
returns-clause-ok g c =
    let pair_is : c.unwrap.result ≡ (c.in_ok-store.store, c.in-Ok.context) = rw c.unwrap.ensures at c.from_parts.ensures.pair in
    rw (← c.self.view_is) (subst (λ d. Same (or_map_state d) (live_state (c.self.inside.store, c.self.inside.context))) (sym pair_is)
    (whole_same (c.self.inside.store, c.self.inside.context) (c.in_ok-store.store, c.in-Ok.context) c.in_ok-store.ensures.ok c.in-Ok.ensures.equal))
