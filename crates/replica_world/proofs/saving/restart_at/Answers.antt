use Rattle.std.proofs.Common.{IsSome, inr, refl, subst}
use Rattle.std.proofs.lemmas.Result.{on_err_weaker}
use Rattle.replica_world.proofs.Happened.{replaces_from}
use Rattle.replica_world.proofs.Results.{if_ok_weaker}
use Rattle.replica_world.proofs.saving.restart_at.Goals as goal

pub returns-in-Some-clause-ok : goal.returns-in-Some-clause-ok
returns-in-Some-clause-ok g c =
    let was = c.in-Some.ensures.value in
    let updates = (c.get_mut.follows.holds c.restart.new.replica).3 (subst IsSome was refl) in
    if_ok_weaker c.restart.result
    (λ answer told. (
      told.0,
      (
        c.in-Some.replica.now,
        c.restart.new.replica,
        replaces_from c.args.replicas.now (c.get_mut.follows.lender c.restart.new.replica) c.args.name _ _ was updates,
        told.1,
        told.2,
        told.3,
      ),
    ))
    c.restart.ensures.ok

pub returns-in-Some-clause-unchanged : goal.returns-in-Some-clause-unchanged
returns-in-Some-clause-unchanged g c =
    let was = c.in-Some.ensures.value in
    let updates = (c.get_mut.follows.holds c.restart.new.replica).3 (subst IsSome was refl) in
    on_err_weaker c.restart.result
    (λ stays. inr (
      c.in-Some.replica.now,
      c.restart.new.replica,
      replaces_from c.args.replicas.now (c.get_mut.follows.lender c.restart.new.replica)
          c.args.name _ _ was updates,
      stays,
    ))
    c.restart.ensures.unchanged
