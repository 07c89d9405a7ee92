use Rattle.std.proofs.Common.{◌≡◌, ◌∙◌, subst, refl}
use Rattle.replica_model.specs.Step.{Ask}
use Rattle.replica_core.specs.Stepping.{IsRefused}
use Rattle.replica_store.specs.Refusing.{IsSame}
use Rattle.durable_log.specs.Log.{log_state}
use Rattle.replica_core.specs.Meaning.{meaning}
use Rattle.replica_store.specs.Kept.{IsKept, KeepsEither}
use Rattle.replica_store.specs.Store.{StoreValue}
use Rattle.replica_store.proofs.Took.{asked}
use Rattle.replica_store.proofs.Surviving.{unkept}
use Rattle.replica_store.proofs.store.Store.ask.Goals as goal

pub returns-in-Err-clause-err : goal.returns-in-Err-clause-err
returns-in-Err-clause-err g c =
    let new : StoreValue _ _ = record { replica = c.ask.new.self; log = c.self.inside.log; is_failed = c.self.inside.is_failed } in
    subst (λ (v : StoreValue _ _). IsRefused v.replica (Ask c.args.peer) c.in-Err.refusal × IsSame v new) c.self.view_is
    (c.in-Err.ensures.refused, record { replica = c.in-Err.ensures.unchanged; log = refl; usable = (c.if-self.false, c.if-self.false) })

pub returns-in-Err-clause-any_moment : goal.returns-in-Err-clause-any_moment
returns-in-Err-clause-any_moment g c fresh clean =
    let before = log_state g.S.Store c.self.inside.log in
    let holds = c.self.invariant c.if-self.false in
    subst (λ (v : StoreValue _ _). KeepsEither before (meaning v.replica) (meaning c.ask.new.self)) c.self.view_is
    (unkept before (meaning c.self.inside.replica) (meaning c.ask.new.self) (c.is_failed.ensures.ready (c.is_failed.ensures.value ∙ holds.0) clean)
    (holds.1 clean))

pub invariant_of-self-in-Ok-keep_number : goal.invariant_of-self-in-Ok-keep_number
invariant_of-self-in-Ok-keep_number g c fresh =
    let old = meaning c.self.inside.replica in
    let new = meaning c.ask.new.self in
    let holds = c.self.invariant c.if-self.false in
    let step = asked old new c.args.peer c.in-Ok.asked.0 _ c.in-Ok.ensures.ok.step in (
      c.in-Ok-keep_number.ensures.stays,
      λ clean. (c.in-Ok-keep_number.ensures.kept old new (holds.1 (c.keep_number.ensures.clean clean)) step.0 step.1 clean).now,
    )

pub returns-in-Ok-keep_number-clause-kept : goal.returns-in-Ok-keep_number-clause-kept
returns-in-Ok-keep_number-clause-kept g c clean =
    let old = meaning c.self.inside.replica in
    let new = meaning c.ask.new.self in
    let holds = c.self.invariant c.if-self.false in
    let step = asked old new c.args.peer c.in-Ok.asked.0 _ c.in-Ok.ensures.ok.step in
    c.in-Ok-keep_number.ensures.kept old new (holds.1 (c.keep_number.ensures.clean clean)) step.0 step.1 clean

pub returns-in-Ok-keep_number-clause-any_moment : goal.returns-in-Ok-keep_number-clause-any_moment
returns-in-Ok-keep_number-clause-any_moment g c fresh clean =
    let old = meaning c.self.inside.replica in
    let new = meaning c.ask.new.self in
    let after = log_state g.S.Store c.keep_number.new.log in
    let holds = c.self.invariant c.if-self.false in
    let step = asked old new c.args.peer c.in-Ok.asked.0 _ c.in-Ok.ensures.ok.step in
    subst (λ (v : StoreValue _ _). KeepsEither after (meaning v.replica) new) c.self.view_is
    (c.keep_number.ensures.any_moment old new (holds.1 (c.keep_number.ensures.clean clean)) step.0 step.1 clean)

pub returns-in-Err-keep_number-clause-any_moment : goal.returns-in-Err-keep_number-clause-any_moment
returns-in-Err-keep_number-clause-any_moment g c fresh clean =
    let old = meaning c.self.inside.replica in
    let new = meaning c.ask.new.self in
    let after = log_state g.S.Store c.keep_number.new.log in
    let holds = c.self.invariant c.if-self.false in
    let step = asked old new c.args.peer c.in-Ok.asked.0 _ c.in-Ok.ensures.ok.step in
    subst (λ (v : StoreValue _ _). KeepsEither after (meaning v.replica) new) c.self.view_is
    (c.keep_number.ensures.any_moment old new (holds.1 (c.keep_number.ensures.clean clean)) step.0 step.1 clean)
