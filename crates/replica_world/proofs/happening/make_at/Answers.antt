use Rattle.std.proofs.lemmas.Result.{on_err_weaker}
use Rattle.std.proofs.Common.{IsSome, inr, refl, subst, sym}
use Rattle.replica_world.proofs.Happened.{replaces_from}
use Rattle.replica_world.proofs.Results.{if_ok_weaker, if_err_weaker}
use Rattle.replica_world.proofs.happening.make_at.Goals as goal

pub returns-in-Some-clause-ok : goal.returns-in-Some-clause-ok
returns-in-Some-clause-ok g c =
    let was = c.in-Some.ensures.value in
    let updates = (c.get_mut.follows.holds c.make.new.replica).3 (subst IsSome was refl) in
    if_ok_weaker c.make.result
    (λ answer called. (
      c.in-Some.replica.now,
      c.make.new.replica,
      replaces_from c.args.replicas.now (c.get_mut.follows.lender c.make.new.replica)
          c.args.name _ _ was updates,
      called,
    ))
    c.make.ensures.ok

pub returns-in-Some-clause-refused : goal.returns-in-Some-clause-refused
returns-in-Some-clause-refused g c =
    if_err_weaker c.make.result (λ refusal refused. inr (c.in-Some.replica.now, sym c.in-Some.ensures.value, refused)) c.make.ensures.refused

pub returns-in-Some-clause-unchanged : goal.returns-in-Some-clause-unchanged
returns-in-Some-clause-unchanged g c =
    let was = c.in-Some.ensures.value in
    let updates = (c.get_mut.follows.holds c.make.new.replica).3 (subst IsSome was refl) in
    on_err_weaker c.make.result
    (λ stays. inr (
      c.in-Some.replica.now,
      c.make.new.replica,
      replaces_from c.args.replicas.now (c.get_mut.follows.lender c.make.new.replica)
          c.args.name _ _ was updates,
      stays,
    ))
    c.make.ensures.unchanged
