use Rattle.std.proofs.Common.{◌∙◌, [], subst}
use Rattle.durable_log.specs.Log.{log_state}
use Rattle.replica_model.specs.Step.{Do}
use Rattle.replica_core.specs.Meaning.{meaning}
use Rattle.replica_core.specs.Stepping.{Steps}
use Rattle.replica_store.specs.Kept.{KeepsEither}
use Rattle.replica_store.specs.Store.{StoreValue}
use Rattle.replica_store.proofs.Behind.{behind, write_made}
use Rattle.replica_store.proofs.Surviving.{unkept}
use Rattle.replica_store.proofs.store.Store.keep_made.Goals as goal

pub returns-in-Err-clause-any_moment : goal.returns-in-Err-clause-any_moment
returns-in-Err-clause-any_moment g c fresh clean =
    let before = log_state g.S.Store c.self.inside.log in
    let holds = c.self.invariant c.if-self.false in
    subst (λ (v : StoreValue _ _). KeepsEither before (meaning v.replica) (meaning c.make.new.replica)) c.self.view_is
    (unkept before (meaning c.self.inside.replica) (meaning c.make.new.replica) (c.is_failed.ensures.ready (c.is_failed.ensures.value ∙ holds.0) clean)
    (holds.1 clean))

pub invariant_of-self-in-Ok-keep_flushed : goal.invariant_of-self-in-Ok-keep_flushed
invariant_of-self-in-Ok-keep_flushed g c fresh =
    let old = meaning c.self.inside.replica in
    let mid = meaning c.make.new.replica in
    let holds = c.self.invariant c.if-self.false in (
      c.in-Ok-keep_flushed.ensures.stays,
      λ clean.
          let keeps = holds.1 (c.keep_flushed.ensures.clean clean) in
          (c.in-Ok-keep_flushed.ensures.kept old
          (behind old mid keeps.group (write_made old mid _ _ (g.met.W.ToMake.is_write c.args.write.now) c.in-Ok.ensures.ok.step)) clean keeps).now,
    )

pub returns-in-Ok-keep_flushed-clause-ok : goal.returns-in-Ok-keep_flushed-clause-ok
returns-in-Ok-keep_flushed-clause-ok g c =
    let sent = c.in-Ok-keep_flushed.ensures.sent in (
      sent.0,
      sent.1,
      record {
        mid = c.make.new.replica;
        made = subst (λ (v : StoreValue _ _). Steps g.H.PathHash.hash_of v.replica c.make.new.replica (Do (g.W.ToMake.call c.args.write.now))
            (g.W.ToMake.answered c.in-Ok.answer) []) c.self.view_is c.in-Ok.ensures.ok;
        sent = sent.2;
      },
    )

pub returns-in-Ok-keep_flushed-clause-kept : goal.returns-in-Ok-keep_flushed-clause-kept
returns-in-Ok-keep_flushed-clause-kept g c clean =
    let old = meaning c.self.inside.replica in
    let mid = meaning c.make.new.replica in
    let keeps = (c.self.invariant c.if-self.false).1 (c.keep_flushed.ensures.clean clean) in
    c.in-Ok-keep_flushed.ensures.kept old
    (behind old mid keeps.group (write_made old mid _ _ (g.met.W.ToMake.is_write c.args.write.now) c.in-Ok.ensures.ok.step)) clean keeps

pub returns-in-Ok-keep_flushed-clause-any_moment : goal.returns-in-Ok-keep_flushed-clause-any_moment
returns-in-Ok-keep_flushed-clause-any_moment g c fresh clean =
    let old = meaning c.self.inside.replica in
    let mid = meaning c.make.new.replica in
    let after = log_state g.S.Store c.keep_flushed.new.log in
    let keeps = (c.self.invariant c.if-self.false).1 (c.keep_flushed.ensures.clean clean) in
    subst (λ (v : StoreValue _ _). KeepsEither after (meaning v.replica) (meaning c.keep_flushed.new.replica)) c.self.view_is
    (c.keep_flushed.ensures.any_moment old
    (behind old mid keeps.group (write_made old mid _ _ (g.met.W.ToMake.is_write c.args.write.now) c.in-Ok.ensures.ok.step)) clean keeps)

pub returns-in-Err-keep_flushed-clause-any_moment : goal.returns-in-Err-keep_flushed-clause-any_moment
returns-in-Err-keep_flushed-clause-any_moment g c fresh clean =
    let old = meaning c.self.inside.replica in
    let mid = meaning c.make.new.replica in
    let after = log_state g.S.Store c.keep_flushed.new.log in
    let keeps = (c.self.invariant c.if-self.false).1 (c.keep_flushed.ensures.clean clean) in
    subst (λ (v : StoreValue _ _). KeepsEither after (meaning v.replica) (meaning c.keep_flushed.new.replica)) c.self.view_is
    (c.keep_flushed.ensures.any_moment old
    (behind old mid keeps.group (write_made old mid _ _ (g.met.W.ToMake.is_write c.args.write.now) c.in-Ok.ensures.ok.step)) clean keeps)
