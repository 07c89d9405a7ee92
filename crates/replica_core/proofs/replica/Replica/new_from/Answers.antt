use Rattle.std.proofs.Common.{map, refl, ap}
use Rattle.causal_join.specs.OrMap.{or_map_state}
use Rattle.delta_ops.specs.Group.{group_state}
use Rattle.replica_model.specs.Replica.{fresh}
use Rattle.replica_core.specs.Meaning.{open_of, kept_of}
use Rattle.replica_core.proofs.Meant.{of_parts, fresh_is, meaning_by}
use Rattle.replica_core.proofs.replica.Replica.new_from.Goals as goal

pub invariant_of-result : goal.invariant_of-result
invariant_of-result g c =
    fresh_is g.H.PathHash.hash_of (record {
      name = c.args.name;
      live = c.in_ok-held.held;
      group = c.new.result;
      opened = 0;
      sessions = c.new-2.result.items;
      kept = c.new-3.result;
    }) c.new-2.ensures.items c.new-3.ensures

pub returns-clause-ok : goal.returns-clause-ok
returns-clause-ok g c =
    let r = of_parts c.args.name c.in_ok-held.held c.new.result 0 c.new-2.result.items c.new-3.result in
    meaning_by r (record (fresh c.args.name) { live = or_map_state c.args.saved.live }) refl c.in_ok-held.ensures.ok
    (ap group_state c.new.ensures) refl (ap (map open_of) c.new-2.ensures.items) (ap (map kept_of) c.new-3.ensures)
