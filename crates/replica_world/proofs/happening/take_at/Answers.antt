use Rattle.std.proofs.lemmas.Result.{on_err_weaker}
use Rattle.replica_world.proofs.Happened.{replaces_from}
use Rattle.replica_world.proofs.Results.{if_ok_weaker}
use Rattle.replica_world.proofs.happening.take_at.Goals as goal

pub returns-clause-ok : goal.returns-clause-ok
returns-clause-ok g c =
    let was = c.in-Some.ensures.value in
    let updates = (c.get_mut.follows.holds c.take.new.replica).3 c.requires in
    if_ok_weaker c.take.result
    (λ answer took. (
      c.in-Some.replica.now,
      c.take.new.replica,
      replaces_from c.args.replicas.now (c.get_mut.follows.lender c.take.new.replica)
          c.args.name _ _ was updates,
      took,
    ))
    c.take.ensures.ok

pub returns-clause-unchanged : goal.returns-clause-unchanged
returns-clause-unchanged g c =
    let was = c.in-Some.ensures.value in
    let updates = (c.get_mut.follows.holds c.take.new.replica).3 c.requires in
    on_err_weaker c.take.result
    (λ stays. (
      c.in-Some.replica.now,
      c.take.new.replica,
      replaces_from c.args.replicas.now (c.get_mut.follows.lender c.take.new.replica)
          c.args.name _ _ was updates,
      stays,
    ))
    c.take.ensures.unchanged
