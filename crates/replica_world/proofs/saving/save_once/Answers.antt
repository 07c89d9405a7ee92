use Rattle.std.proofs.Common.{IsSome, ◌+◌, refl, subst}
use Rattle.replica_world.specs.declared.recovery.Recovery.{Recovery}
use Rattle.replica_world.proofs.Recovered.{saved_once}
use Rattle.replica_world.proofs.saving.save_once.Goals as goal

pub returns-clause-once : goal.returns-clause-once
returns-clause-once g c =
    let was = c.in-Some.ensures.value in
    let now : Recovery _ _ = record { saves = c.in-Some.found.now.saves + 1; checkpoint = c.take.new.self } in
    let updates = (c.get_mut.follows.holds now).3 (subst IsSome was refl) in
    saved_once c.args.kept.now (c.get_mut.follows.lender now) c.args.name now updates c.in-Some.found.now was refl c.take.ensures.after
