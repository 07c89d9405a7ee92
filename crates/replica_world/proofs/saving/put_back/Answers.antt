use Rattle.std.proofs.Common.{sym, subst}
use Rattle.replica_world.specs.Replaces.{Replaces}
use Rattle.replica_world.proofs.Happened.{replaces_from}
use Rattle.replica_world.proofs.saving.put_back.Goals as goal

pub returns : goal.returns
returns g c =
    let was = c.in-Some.ensures.value in
    let updates = (c.get_mut.follows.holds c.replace.new.dest).3 c.requires in (
      c.in-Some.replica.now,
      subst (λ r. Replaces c.args.replicas.now (c.get_mut.follows.lender c.replace.new.dest) c.args.name c.in-Some.replica.now r) c.replace.ensures.after
          (replaces_from c.args.replicas.now (c.get_mut.follows.lender c.replace.new.dest) c.args.name _ _ was updates),
    )
