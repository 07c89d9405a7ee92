use Rattle.std.proofs.Common.{map}
use Rattle.replica_core.specs.Meaning.{meaning}
use Rattle.replica_store.proofs.Back.{rebuilt_from}
use Rattle.replica_store.proofs.rebuilding.rebuild.Goals as goal

pub returns-clause-rebuilt : goal.returns-clause-rebuilt
returns-clause-rebuilt g c =
    rebuilt_from (map (λ string. string.items) c.args.strings.now) c.args.name c.in_ok-opened.opened (meaning c.in_ok-replica.replica)
    (meaning c.join_all.new.replica) c.in_ok-opened.ensures c.in_ok-replica.ensures c.in_default.ensures
