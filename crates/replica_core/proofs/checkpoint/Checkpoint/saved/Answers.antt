use Rattle.std.proofs.Common.{[], ap, ◌∙◌}
use Rattle.causal_join.specs.OrMap.{or_map_state}
use Rattle.delta_ops.specs.Group.{group_state}
use Rattle.delta_ops.specs.LiveMap.{live_state}
use Rattle.replica_model.proofs.States.{same_is}
use Rattle.replica_core.specs.Saving.{CheckpointValue}
use Rattle.replica_core.proofs.checkpoint.Checkpoint.saved.Goals as goal

pub returns-clause-ok : goal.returns-clause-ok
returns-clause-ok g c =
    let view = c.self.view_is in
    λ i. record {
      name = (view i).name;
      live = same_is (or_map_state c.in-Ok.live) (live_state c.args.self.now.pair) c.in-Ok.ensures.ok i;
      group = (same_is (or_map_state c.in_ok-group.group) (group_state c.self.inside.group) c.in_ok-group.ensures.ok
          ∙ ap (λ (v : CheckpointValue _). group_state v.group) view) i;
      opened = (view i).opened;
      sessions = [];
      kept = [];
    }
