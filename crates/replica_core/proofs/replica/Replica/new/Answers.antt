use Rattle.std.proofs.Common.{refl}
use Rattle.replica_core.proofs.Meant.{fresh_meaning, fresh_is}
use Rattle.replica_core.proofs.replica.Replica.new.Goals as goal

pub invariant_of-result : goal.invariant_of-result
invariant_of-result g c = fresh_is g.H.PathHash.hash_of
    (record { name = c.args.name; live = c.new.result; group = c.new-2.result; opened = 0; sessions = c.new-3.result.items; kept = c.new-4.result })
    c.new-3.ensures.items c.new-4.ensures

pub returns-clause-fresh : goal.returns-clause-fresh
returns-clause-fresh g c =
    fresh_meaning (record {
      name = c.args.name;
      live = c.new.result;
      group = c.new-2.result;
      opened = 0;
      sessions = c.new-3.result.items;
      kept = c.new-4.result;
    }) c.new.ensures.store c.new.ensures.context c.new-2.ensures refl c.new-3.ensures.items c.new-4.ensures
