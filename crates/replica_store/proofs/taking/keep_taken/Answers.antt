use Rattle.std.proofs.Common.{◌≡◌, ◌∙◌, subst}
use Rattle.std.specs.Prelude.{IfSome}
use Rattle.wire_form.specs.Message.{message_of}
use Rattle.durable_log.specs.Log.{log_state}
use Rattle.replica_model.specs.Delivery.{Joined, Done}
use Rattle.replica_model.specs.Mail.{mail_of}
use Rattle.replica_core.specs.Answered.{outcome_of}
use Rattle.replica_core.specs.Meaning.{meaning}
use Rattle.replica_store.specs.Took.{TookAs, Joins}
use Rattle.replica_store.proofs.Gaining.{gains_delta, delta_or_not, all_kept, all_or_not}
use Rattle.replica_store.proofs.Surviving.{kept_now, on_ok}
use Rattle.replica_store.proofs.taking.keep_taken.Goals as goal

pub returns-in-Joined-clause-kept : goal.returns-in-Joined-clause-kept
returns-in-Joined-clause-kept g c old h brings clean keeps =
    let new = meaning c.args.replica.now in
    let m = message_of c.args.message.now in
    let before = log_state g.S.Store c.args.log.now in
    let after = log_state g.S.Store c.keep_one.new.log in
    let took : TookAs old (mail_of m) Joined new = subst (λ o. TookAs old (mail_of m) (outcome_of o) new) c.in-Joined.is h in
    on_ok c.keep_one.result
    (λ both. kept_now after new both.0 (gains_delta before.now.trees after.now.trees old new keeps m took.0 took.1 both.1 took.2))
    (c.keep_one.ensures.kept clean)

pub returns-in-Joined-clause-any_moment : goal.returns-in-Joined-clause-any_moment
returns-in-Joined-clause-any_moment g c old h brings clean keeps =
    delta_or_not (log_state g.S.Store c.args.log.now) (log_state g.S.Store c.keep_one.new.log) old (meaning c.args.replica.now)
    (message_of c.args.message.now)
    (c.is_failed.ensures.ready (c.is_failed.ensures.value ∙ c.requires))
    (subst (λ o. TookAs old (mail_of (message_of c.args.message.now)) (outcome_of o) (meaning c.args.replica.now)) c.in-Joined.is h)
    c.keep_one.ensures.any_moment clean keeps

pub returns-in-Some-clause-kept : goal.returns-in-Some-clause-kept
returns-in-Some-clause-kept g c old h brings clean keeps =
    let new = meaning c.args.replica.now in
    let mail = mail_of (message_of c.args.message.now) in
    let took : TookAs old mail Done new = subst (λ o. TookAs old mail (outcome_of o) new) c.in-Done.is h in
    let is = subst (λ b. IfSome b (λ m. Joins old (mail_of (message_of m)) new)) c.in-Some.is brings in
    c.keep_brought.ensures.kept old new mail took is clean keeps

pub returns-in-Some-clause-any_moment : goal.returns-in-Some-clause-any_moment
returns-in-Some-clause-any_moment g c old h brings clean keeps =
    let new = meaning c.args.replica.now in
    let mail = mail_of (message_of c.args.message.now) in
    let took : TookAs old mail Done new = subst (λ o. TookAs old mail (outcome_of o) new) c.in-Done.is h in
    let is = subst (λ b. IfSome b (λ m. Joins old (mail_of (message_of m)) new)) c.in-Some.is brings in
    c.keep_brought.ensures.any_moment old new mail took is clean keeps

pub returns-in-None-clause-kept : goal.returns-in-None-clause-kept
returns-in-None-clause-kept g c old h brings clean keeps =
    let new = meaning c.args.replica.now in
    let mail = mail_of (message_of c.args.message.now) in
    let before = log_state g.S.Store c.args.log.now in
    let after = log_state g.S.Store c.keep_all.new.log in
    let took : TookAs old mail Done new = subst (λ o. TookAs old mail (outcome_of o) new) c.in-Done.is h in
    on_ok c.keep_all.result
    (λ both. kept_now after new both.0 (all_kept before after old new mail took after.now.trees keeps both.1))
    (c.keep_all.ensures.kept clean)

pub returns-in-None-clause-any_moment : goal.returns-in-None-clause-any_moment
returns-in-None-clause-any_moment g c old h brings clean keeps =
    let new = meaning c.args.replica.now in
    let mail = mail_of (message_of c.args.message.now) in
    let took : TookAs old mail Done new = subst (λ o. TookAs old mail (outcome_of o) new) c.in-Done.is h in
    all_or_not (log_state g.S.Store c.args.log.now) (log_state g.S.Store c.keep_all.new.log) old new mail took
    (c.is_failed.ensures.ready (c.is_failed.ensures.value ∙ c.requires)) c.keep_all.ensures.any_moment clean keeps
