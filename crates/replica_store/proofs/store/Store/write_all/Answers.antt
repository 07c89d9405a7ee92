use Rattle.std.proofs.Common.{◌∙◌, map, subst}
use Rattle.durable_log.specs.Log.{log_state}
use Rattle.replica_core.specs.Meaning.{meaning}
use Rattle.replica_store.specs.Kept.{KeepsEither}
use Rattle.replica_store.specs.Behind.{IsBehind}
use Rattle.replica_store.specs.Store.{StoreValue}
use Rattle.replica_core.specs.Writing.{answer_of, call_of}
use Rattle.replica_store.specs.Writes.{MakesAll, is_write_of}
use Rattle.replica_store.proofs.Behind.{behind_none, behind_all}
use Rattle.replica_store.proofs.Surviving.{unkept}
use Rattle.replica_store.proofs.store.Store.write_all.Goals as goal

pub returns-in-Err-clause-any_moment : goal.returns-in-Err-clause-any_moment
returns-in-Err-clause-any_moment g c fresh clean =
    let before = log_state g.S.Store c.self.inside.log in
    let holds = c.self.invariant c.if-self.false in
    subst (λ (v : StoreValue _ _). KeepsEither before (meaning v.replica) (meaning c.make_all.new.replica)) c.self.view_is
    (unkept before (meaning c.self.inside.replica) (meaning c.make_all.new.replica) (c.is_failed.ensures.ready (c.is_failed.ensures.value ∙ holds.0) clean)
    (holds.1 clean))

pub invariant_of-self-in-Ok-keep_flushed : goal.invariant_of-self-in-Ok-keep_flushed
invariant_of-self-in-Ok-keep_flushed g c fresh =
    let old = meaning c.self.inside.replica in
    let holds = c.self.invariant c.if-self.false in (
      c.in-Ok-keep_flushed.ensures.stays,
      λ clean.
          let keeps = holds.1 (c.keep_flushed.ensures.clean clean) in
          let behind : IsBehind old (meaning c.make_all.new.replica) =
          behind_all g.H.PathHash.hash_of call_of answer_of is_write_of old c.self.inside.replica c.make_all.new.replica c.args.writes.now c.in-Ok.answers.items
          (behind_none old keeps.group) c.in-Ok.ensures in
          (c.in-Ok-keep_flushed.ensures.kept old behind clean keeps).now,
    )

pub returns-in-Ok-keep_flushed-clause-ok : goal.returns-in-Ok-keep_flushed-clause-ok
returns-in-Ok-keep_flushed-clause-ok g c =
    let sent = c.in-Ok-keep_flushed.ensures.sent in (
      sent.0,
      sent.1,
      record {
        mid = c.make_all.new.replica;
        made = subst (λ (v : StoreValue _ _). MakesAll g.H.PathHash.hash_of v.replica c.make_all.new.replica (map call_of c.args.writes.now)
            (map answer_of c.in-Ok.answers.items)) c.self.view_is c.in-Ok.ensures;
        sent = sent.2;
      },
    )

pub returns-in-Ok-keep_flushed-clause-kept : goal.returns-in-Ok-keep_flushed-clause-kept
returns-in-Ok-keep_flushed-clause-kept g c clean =
    let old = meaning c.self.inside.replica in
    let keeps = (c.self.invariant c.if-self.false).1 (c.keep_flushed.ensures.clean clean) in
    let behind : IsBehind old (meaning c.make_all.new.replica) =
    behind_all g.H.PathHash.hash_of call_of answer_of is_write_of old c.self.inside.replica c.make_all.new.replica c.args.writes.now c.in-Ok.answers.items
    (behind_none old keeps.group) c.in-Ok.ensures in
    c.in-Ok-keep_flushed.ensures.kept old behind clean keeps

pub returns-in-Ok-keep_flushed-clause-any_moment : goal.returns-in-Ok-keep_flushed-clause-any_moment
returns-in-Ok-keep_flushed-clause-any_moment g c fresh clean =
    let old = meaning c.self.inside.replica in
    let after = log_state g.S.Store c.keep_flushed.new.log in
    let keeps = (c.self.invariant c.if-self.false).1 (c.keep_flushed.ensures.clean clean) in
    let behind : IsBehind old (meaning c.make_all.new.replica) =
    behind_all g.H.PathHash.hash_of call_of answer_of is_write_of old c.self.inside.replica c.make_all.new.replica c.args.writes.now c.in-Ok.answers.items
    (behind_none old keeps.group) c.in-Ok.ensures in
    subst (λ (v : StoreValue _ _). KeepsEither after (meaning v.replica) (meaning c.keep_flushed.new.replica)) c.self.view_is
    (c.keep_flushed.ensures.any_moment old behind clean keeps)

pub returns-in-Err-keep_flushed-clause-any_moment : goal.returns-in-Err-keep_flushed-clause-any_moment
returns-in-Err-keep_flushed-clause-any_moment g c fresh clean =
    let old = meaning c.self.inside.replica in
    let after = log_state g.S.Store c.keep_flushed.new.log in
    let keeps = (c.self.invariant c.if-self.false).1 (c.keep_flushed.ensures.clean clean) in
    let behind : IsBehind old (meaning c.make_all.new.replica) =
    behind_all g.H.PathHash.hash_of call_of answer_of is_write_of old c.self.inside.replica c.make_all.new.replica c.args.writes.now c.in-Ok.answers.items
    (behind_none old keeps.group) c.in-Ok.ensures in
    subst (λ (v : StoreValue _ _). KeepsEither after (meaning v.replica) (meaning c.keep_flushed.new.replica)) c.self.view_is
    (c.keep_flushed.ensures.any_moment old behind clean keeps)
