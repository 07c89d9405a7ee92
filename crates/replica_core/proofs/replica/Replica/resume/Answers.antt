use Rattle.std.proofs.Common.{◌∙◌, map, refl, ap}
use Rattle.causal_join.specs.OrMap.{or_map_state}
use Rattle.delta_ops.specs.Group.{group_state}
use Rattle.op_model.specs.Meaning.{greater}
use Rattle.op_model.specs.State.{join}
use Rattle.replica_model.proofs.States.{same_is}
use Rattle.replica_core.specs.Meaning.{open_of, kept_of}
use Rattle.replica_core.specs.Saving.{restored}
use Rattle.replica_core.proofs.Meant.{of_parts, fresh_is, meaning_by}
use Rattle.replica_core.proofs.Whole.{join_nothing}
use Rattle.replica_core.proofs.replica.Replica.resume.Goals as goal

pub invariant_of-result : goal.invariant_of-result
invariant_of-result g c =
    fresh_is g.H.PathHash.hash_of (record {
      name = c.args.saved.name;
      live = c.in-Ok.held;
      group = c.push.new.self;
      opened = c.args.saved.opened;
      sessions = c.new.result.items;
      kept = c.new-in-Ok.result;
    }) c.new.ensures.items c.new-in-Ok.ensures

pub returns-in-Ok-clause-ok : goal.returns-in-Ok-clause-ok
returns-in-Ok-clause-ok g c =
    let r = of_parts c.args.saved.name c.in-Ok.held c.push.new.self c.args.saved.opened c.new.result.items c.new-in-Ok.result in
    meaning_by r (restored c.args.saved) refl c.in-Ok.ensures.ok
    (same_is (group_state c.push.new.self) (join greater (group_state c.new-outgoing.result) (or_map_state c.args.saved.group)) c.in_default.ensures.ok
    ∙ ap (λ gs. join greater (group_state gs) (or_map_state c.args.saved.group)) c.new-outgoing.ensures
    ∙ join_nothing (or_map_state c.args.saved.group))
    refl (ap (map open_of) c.new.ensures.items) (ap (map kept_of) c.new-in-Ok.ensures)
