use Rattle.std.proofs.Common.{◌≡◌, ◌∷◌, [], ◌∙◌, false, Some, None, subst}
use Rattle.sqlite.specs.State.{HasCleanDisk}
use Rattle.wire_form.specs.Message.{message_of}
use Rattle.durable_log.specs.Log.{log_state, IsReady}
use Rattle.replica_model.specs.Mail.{mail_of}
use Rattle.replica_model.specs.Step.{Flush, Nothing, IsCall}
use Rattle.replica_core.specs.Meaning.{meaning}
use Rattle.replica_core.specs.Stepping.{mail_or_none}
use Rattle.replica_store.proofs.Gaining.{flushed_none, flushed_some}
use Rattle.replica_store.proofs.Surviving.{was_clean, kept_now, gained}
use Rattle.replica_store.proofs.writing.keep_flushed.Goals as goal

pub returns-in_default-sent-clause-kept : goal.returns-in_default-sent-clause-kept
returns-in_default-sent-clause-kept g c kept behind clean keeps =
    let mid = meaning c.args.replica.now in
    let new = meaning c.flush.new.self in
    let step : IsCall mid Flush new Nothing [] = subst (λ s. IsCall mid Flush new Nothing (mail_or_none s)) c.in_default-sent.is c.in-Ok.ensures.ok.step in
    kept_now (log_state g.S.Store c.args.log.now) new (c.is_failed.ensures.ready (c.is_failed.ensures.value ∙ c.requires) clean)
    (flushed_none kept mid new Nothing (log_state g.S.Store c.args.log.now).now.trees behind keeps step)

pub returns-in-Ok-kept-clause-kept : goal.returns-in-Ok-kept-clause-kept
returns-in-Ok-kept-clause-kept g c kept behind clean keeps =
    let mid = meaning c.args.replica.now in
    let new = meaning c.flush.new.self in
    let m = message_of c.in-Some.message in
    let step : IsCall mid Flush new Nothing (mail_of m ∷ []) = subst (λ s. IsCall mid Flush new Nothing (mail_or_none s))
    c.in-Some.is c.in-Ok.ensures.ok.step in
    let after = log_state g.S.Store c.keep_message-kept.new.log in
    let both = c.in-Ok-kept.ensures.kept clean in
    kept_now after new both.0 (flushed_some kept mid new Nothing (log_state g.S.Store c.args.log.now).now.trees behind keeps m after.now.trees step both.1)

pub returns-in-Ok-kept-clause-any_moment : goal.returns-in-Ok-kept-clause-any_moment
returns-in-Ok-kept-clause-any_moment g c kept behind clean keeps =
    let mid = meaning c.args.replica.now in
    let new = meaning c.flush.new.self in
    let m = message_of c.in-Some.message in
    let before = log_state g.S.Store c.args.log.now in
    let after = log_state g.S.Store c.keep_message-kept.new.log in
    let step : IsCall mid Flush new Nothing (mail_of m ∷ []) = subst (λ s. IsCall mid Flush new Nothing (mail_or_none s))
    c.in-Some.is c.in-Ok.ensures.ok.step in
    let survives = c.keep_message-kept.ensures.any_moment in
    let ready : IsReady before = c.is_failed.ensures.ready (c.is_failed.ensures.value ∙ c.requires) (was_clean before after _ survives clean) in
    gained before after kept new _ ready keeps survives (λ db gains. flushed_some kept mid new Nothing before.now.trees behind keeps m db step gains) clean

pub returns-in-Err-clause-any_moment : goal.returns-in-Err-clause-any_moment
returns-in-Err-clause-any_moment g c kept behind clean keeps =
    let mid = meaning c.args.replica.now in
    let new = meaning c.flush.new.self in
    let m = message_of c.in-Some.message in
    let before = log_state g.S.Store c.args.log.now in
    let after = log_state g.S.Store c.keep_message-kept.new.log in
    let step : IsCall mid Flush new Nothing (mail_of m ∷ []) = subst (λ s. IsCall mid Flush new Nothing (mail_or_none s))
    c.in-Some.is c.in-Ok.ensures.ok.step in
    let survives = c.keep_message-kept.ensures.any_moment in
    let ready : IsReady before = c.is_failed.ensures.ready (c.is_failed.ensures.value ∙ c.requires) (was_clean before after _ survives clean) in
    gained before after kept new _ ready keeps survives (λ db gains. flushed_some kept mid new Nothing before.now.trees behind keeps m db step gains) clean
