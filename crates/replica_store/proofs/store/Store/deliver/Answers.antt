use Rattle.std.proofs.Common.{◌∙◌, subst}
use Rattle.sqlite.specs.State.{HasCleanDisk}
use Rattle.durable_log.specs.Log.{log_state}
use Rattle.wire_form.specs.Message.{message_of}
use Rattle.replica_model.specs.Mail.{mail_of}
use Rattle.replica_core.specs.Answered.{outcome_of}
use Rattle.replica_core.specs.Meaning.{meaning}
use Rattle.replica_store.specs.Kept.{KeepsEither}
use Rattle.replica_store.specs.Store.{StoreValue}
use Rattle.replica_store.proofs.Took.{brought_joins, took_step}
use Rattle.replica_store.proofs.Surviving.{unkept}
use Rattle.replica_store.proofs.store.Store.deliver.Goals as goal

pub returns-in-Err-clause-any_moment : goal.returns-in-Err-clause-any_moment
returns-in-Err-clause-any_moment g c fresh clean =
    let before = log_state g.S.Store c.self.inside.log in
    let old = meaning c.self.inside.replica in
    let holds = c.self.invariant c.if-self.false in
    subst (λ (v : StoreValue _ _). HasCleanDisk (log_state g.S.Store v.log) → KeepsEither (log_state g.S.Store v.log) (meaning v.replica) (meaning v.replica))
    c.self.view_is
    (λ now. unkept before old old (c.is_failed.ensures.ready (c.is_failed.ensures.value ∙ holds.0) now) (holds.1 now)) clean

pub returns-in-Err-deliver-clause-any_moment : goal.returns-in-Err-deliver-clause-any_moment
returns-in-Err-deliver-clause-any_moment g c fresh clean =
    let before = log_state g.S.Store c.self.inside.log in
    let holds = c.self.invariant c.if-self.false in
    subst (λ (v : StoreValue _ _). KeepsEither before (meaning v.replica) (meaning c.deliver.new.self)) c.self.view_is
    (unkept before (meaning c.self.inside.replica) (meaning c.deliver.new.self) (c.is_failed.ensures.ready (c.is_failed.ensures.value ∙ holds.0) clean)
    (holds.1 clean))

pub invariant_of-self-in-Ok-kept : goal.invariant_of-self-in-Ok-kept
invariant_of-self-in-Ok-kept g c fresh =
    let old = meaning c.self.inside.replica in
    let new = meaning c.deliver.new.self in
    let mail = mail_of (message_of c.args.message.now) in
    let step = c.in-Ok-deliver.ensures.ok.step in
    let holds = c.self.invariant c.if-self.false in
    let took = took_step _ old mail new (outcome_of c.in-Ok-deliver.told.outcome) _ step in
    let joins = brought_joins (λ m. mail_of (message_of m)) _ old mail new
    (outcome_of c.in-Ok-deliver.told.outcome) _ c.in-Ok.brought c.in-Ok.ensures.ok step in
    (c.in-Ok-kept.ensures.stays, λ clean. (c.in-Ok-kept.ensures.kept old took joins clean (holds.1 (c.keep_taken-kept.ensures.clean clean))).now)

pub returns-in-Ok-kept-clause-kept : goal.returns-in-Ok-kept-clause-kept
returns-in-Ok-kept-clause-kept g c clean =
    let old = meaning c.self.inside.replica in
    let new = meaning c.deliver.new.self in
    let mail = mail_of (message_of c.args.message.now) in
    let step = c.in-Ok-deliver.ensures.ok.step in
    let holds = c.self.invariant c.if-self.false in
    let took = took_step _ old mail new (outcome_of c.in-Ok-deliver.told.outcome) _ step in
    let joins = brought_joins (λ m. mail_of (message_of m)) _ old mail new
    (outcome_of c.in-Ok-deliver.told.outcome) _ c.in-Ok.brought c.in-Ok.ensures.ok step in
    c.in-Ok-kept.ensures.kept old took joins clean (holds.1 (c.keep_taken-kept.ensures.clean clean))

pub returns-in-Ok-kept-clause-any_moment : goal.returns-in-Ok-kept-clause-any_moment
returns-in-Ok-kept-clause-any_moment g c fresh clean =
    let old = meaning c.self.inside.replica in
    let new = meaning c.deliver.new.self in
    let mail = mail_of (message_of c.args.message.now) in
    let step = c.in-Ok-deliver.ensures.ok.step in
    let holds = c.self.invariant c.if-self.false in
    let took = took_step _ old mail new (outcome_of c.in-Ok-deliver.told.outcome) _ step in
    let joins = brought_joins (λ m. mail_of (message_of m)) _ old mail new
    (outcome_of c.in-Ok-deliver.told.outcome) _ c.in-Ok.brought c.in-Ok.ensures.ok step in
    let after = log_state g.S.Store c.keep_taken-kept.new.log in
    subst (λ (v : StoreValue _ _). KeepsEither after (meaning v.replica) new) c.self.view_is
    (c.keep_taken-kept.ensures.any_moment old took joins clean (holds.1 (c.keep_taken-kept.ensures.clean clean)))

pub returns-in-Err-kept-clause-any_moment : goal.returns-in-Err-kept-clause-any_moment
returns-in-Err-kept-clause-any_moment g c fresh clean =
    let old = meaning c.self.inside.replica in
    let new = meaning c.deliver.new.self in
    let mail = mail_of (message_of c.args.message.now) in
    let step = c.in-Ok-deliver.ensures.ok.step in
    let holds = c.self.invariant c.if-self.false in
    let took = took_step _ old mail new (outcome_of c.in-Ok-deliver.told.outcome) _ step in
    let joins = brought_joins (λ m. mail_of (message_of m)) _ old mail new
    (outcome_of c.in-Ok-deliver.told.outcome) _ c.in-Ok.brought c.in-Ok.ensures.ok step in
    let after = log_state g.S.Store c.keep_taken-kept.new.log in
    subst (λ (v : StoreValue _ _). KeepsEither after (meaning v.replica) new) c.self.view_is
    (c.keep_taken-kept.ensures.any_moment old took joins clean (holds.1 (c.keep_taken-kept.ensures.clean clean)))
