use Rattle.std.proofs.Common.{◌∙◌, []}
use Rattle.causal_join.specs.OrMap.{or_map_state}
use Rattle.replica_store.proofs.Behind.{nothing_in}
use Rattle.replica_store.proofs.rebuilding.empty.Goals as goal

pub returns-in-Ok : goal.returns-in-Ok
returns-in-Ok g c =
    c.in-Ok.ensures.ok
    ∙ (λ i. record {
      name = c.args.name;
      live = nothing_in c.bottom.result c.bottom.ensures.store c.bottom.ensures.context i;
      group = nothing_in c.bottom-2.result c.bottom-2.ensures.store c.bottom-2.ensures.context i;
      opened = c.args.opened;
      sessions = [];
      kept = [];
    })
