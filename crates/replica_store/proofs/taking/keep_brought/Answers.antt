use Rattle.std.proofs.Common.{◌∙◌, sym, subst}
use Rattle.std.proofs.lemmas.Result.{on_ok_weaker}
use Rattle.wire_form.specs.Message.{message_of}
use Rattle.durable_log.specs.Log.{log_state, strings}
use Rattle.replica_store.specs.Rebuilt.{IsRebuilt}
use Rattle.replica_store.proofs.Gaining.{ended_kept, ended_or_not, stays_kept}
use Rattle.replica_store.proofs.Surviving.{kept_now, on_ok, unkept}
use Rattle.replica_store.proofs.taking.keep_brought.Goals as goal

pub returns-clause-kept : goal.returns-clause-kept
returns-clause-kept g c old new mail took is clean keeps =
    let before = log_state g.S.Store c.args.log.now in
    let after = log_state g.S.Store c.keep_one.new.log in
    on_ok c.keep_one.result
    (λ both. kept_now after new both.0 (ended_kept before after old new (message_of c.args.delta.now) mail took is after.now.trees keeps both.1))
    (c.keep_one.ensures.kept clean)

pub returns-clause-any_moment : goal.returns-clause-any_moment
returns-clause-any_moment g c old new mail took is clean keeps =
    ended_or_not (log_state g.S.Store c.args.log.now) (log_state g.S.Store c.keep_one.new.log) old new (message_of c.args.delta.now) mail
    (c.is_failed.ensures.ready (c.is_failed.ensures.value ∙ c.requires)) took is c.keep_one.ensures.any_moment clean keeps

pub returns-then-is_nothing-clause-kept : goal.returns-then-is_nothing-clause-kept
returns-then-is_nothing-clause-kept g c old new mail took is clean keeps =
    let now = log_state g.S.Store c.args.log.now in
    let same = stays_kept now now old new (message_of c.args.delta.now) mail took is (c.is_nothing.ensures c.if-is_nothing.true) in
    kept_now now new (c.is_failed.ensures.ready (c.is_failed.ensures.value ∙ c.requires) clean)
    (subst (IsRebuilt (strings now.now.trees)) (sym same) keeps)
