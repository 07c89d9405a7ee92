use Rattle.std.proofs.Common.{[], ◌∷◌, inl, inr, refl, arith}
use Rattle.replica_core.specs.Meaning.{meaning}
use Rattle.node_threads.specs.Serving.{Refused, Taken}
use Rattle.node_threads.proofs.Rounds.{flushed_then, not_called_yet, waits_for_nothing}
use Rattle.node_threads.proofs.timed_serving.flush_to_all.Goals as goal

-- nothing waited after what the client had seen then
pub returns-then-not-inspect : goal.returns-then-not-inspect
returns-then-not-inspect g c =
    let found = c.inspect.ensures.found in
    let r = meaning found.0 in
    ([], inr (inl (refl, c.inspect.ensures.own, (r, found.1, waits_for_nothing c.inspect.result r c.if-not-inspect.true found.2), refl)), (refl, refl, refl))

pub returns-in-Ok : goal.returns-in-Ok
returns-in-Ok g c =
    let n = c.spread-unsent.result in
    let flushed = flushed_then g.K.Naming.first c.args.client.now c.inspect.new.self c.flush.new.client c.in-Ok.sent c.inspect.ensures.own
    c.in-Ok.ensures.flushed in (
      Taken n 0 ∷ [],
      inl (n, c.in-Ok.sent, refl, flushed, c.spread-unsent.ensures),
      (refl, omega (arith, c.spread-unsent.type_inv), refl),
    )

pub returns-in-Err : goal.returns-in-Err
returns-in-Err g c =
    let not_made = not_called_yet c.args.client.now c.inspect.new.self c.flush.new.client c.inspect.ensures.own c.in-Err.ensures.not_made in
    (Refused ∷ [], inr (inr (refl, not_made, refl)), (refl, refl, refl))
