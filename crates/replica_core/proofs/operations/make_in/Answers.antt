use Rattle.std.proofs.Common.{◌≡◌, ◌∙◌, sym, ap, subst, arith}
use Rattle.std.specs.Prelude.{Some}
use Rattle.std.specs.Option.{option_copied}
use Rattle.causal_join.specs.OrMap.{or_map_state}
use Rattle.delta_ops.specs.LiveMap.{live_state}
use Rattle.op_model.specs.Meaning.{greater}
use Rattle.op_model.specs.State.{join}
use Rattle.replica_model.proofs.States.{same_is}
use Rattle.replica_core.proofs.Pairs.{live_joined}
use Rattle.replica_core.proofs.Waits.{queues}
use Rattle.replica_core.proofs.operations.make_in.Goals as goal

pub returns-in-Err-clause-grouped : goal.returns-in-Err-clause-grouped
returns-in-Err-clause-grouped g c = c.take_back.ensures c.args.group.now c.args.delta c.in_ok-push.ensures.pushed

pub returns-clause-live : goal.returns-clause-live
returns-clause-live g c =
    let some : Some c.in-Some.newest.now ≡ Some c.args.delta = ap option_copied (sym c.in-Some.is)
    ∙ c.newest.ensures.value c.args.group.now c.args.delta c.in_ok-push.ensures.pushed in
    let same : c.in-Some.newest.now ≡ c.args.delta = cc in
    subst (λ delta. live_state c.join_delta.new.self.0 ≡ join greater (live_state c.args.live.now.0) (or_map_state delta)) same
    (live_joined c.join_delta.new.self.0 c.args.live.now.0 c.in-Some.newest.now c.in_default-join_delta.ensures.ok)

pub returns-clause-group : goal.returns-clause-group
returns-clause-group g c = same_is _ _ c.settle.ensures.same ∙ same_is _ _ c.in_ok-push.ensures.ok

pub returns-clause-waits : goal.returns-clause-waits
returns-clause-waits g c =
    let most = c.most_deltas-most.result in
    let is = c.most_deltas-most.ensures in
    queues c.args.group.now c.push.new.self c.settle.new.self c.args.delta most (omega (arith, is)) c.in_ok-push.ensures.pushed c.settle.ensures.same
    c.settle.ensures.kept c.settle.ensures.joined
