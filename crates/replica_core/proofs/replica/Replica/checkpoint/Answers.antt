use Rattle.std.proofs.Common.{◌≡◌, ◌∙◌, [], sym, subst}
use Rattle.causal_join.specs.Causal.{state_of}
use Rattle.causal_join.specs.OrMap.{fields_at}
use Rattle.delta_ops.specs.Group.{group_state}
use Rattle.delta_ops.specs.LiveMap.{live_state}
use Rattle.op_model.specs.State.{IsInside}
use Rattle.trie_map.specs.Keyed.{at_keys}
use Rattle.replica_core.proofs.replica.Replica.checkpoint.Goals as goal

pub invariant_of-result : goal.invariant_of-result
invariant_of-result g c =
    let same : (c.in-Ok-share.store, c.in-Ok.context) ≡ c.self.inside.live.0 =
    λ i. ((c.in-Ok-share.ensures.ok ∙ c.store.ensures.value) i, (c.in-Ok.ensures.equal ∙ c.context.ensures.value) i) in
    subst (λ pair. IsInside (state_of (at_keys fields_at) pair)) (sym same) c.store.ensures.inside

pub returns-clause-ok : goal.returns-clause-ok
returns-clause-ok g c =
    let same : (c.in-Ok-share.store, c.in-Ok.context) ≡ c.self.inside.live.0 =
    λ i. ((c.in-Ok-share.ensures.ok ∙ c.store.ensures.value) i, (c.in-Ok.ensures.equal ∙ c.context.ensures.value) i) in
    rw (← c.self.view_is) (λ i. record {
      name = c.self.inside.name;
      live = live_state (same i);
      group = group_state (c.in_ok-group.ensures.ok i);
      opened = c.self.inside.opened;
      sessions = [];
      kept = [];
    })
