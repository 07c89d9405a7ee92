use Rattle.std.proofs.Common.{refl, ap, ◌∙◌, map}
use Rattle.causal_context.specs.Context.{has}
use Rattle.causal_join.specs.OrMap.{FieldsValue}
use Rattle.delta_ops.specs.LiveMap.{live_state}
use Rattle.live_map.specs.Live.{LiveValue}
use Rattle.trie_map.specs.Keyed.{TrieMapValue}
use Rattle.wire_form.specs.Message.{message_of}
use Rattle.sync_protocol.specs.Snapshot.{SnapshotValue}
use Rattle.replica_model.specs.Mail.{Hello}
use Rattle.replica_model.specs.Step.{Take}
use Rattle.replica_core.specs.declared.outcome.Outcome.TheVariants as told
use Rattle.replica_core.specs.Meaning.{kept_of, meaning}
use Rattle.replica_core.specs.Stepping.{Stays}
use Rattle.replica_core.proofs.Asks.{told_by, answered_by, is_away, is_here}
use Rattle.replica_core.proofs.Came.{hello_came, ignored_came}
use Rattle.replica_core.proofs.Keeps.{kept_is, kept_meaning}
use Rattle.replica_core.proofs.MappedPair.{mapped}
use Rattle.replica_core.proofs.Meant.{of_parts, meaning_by}
use Rattle.replica_core.proofs.Posted.{posted_none, posted_one}
use Rattle.replica_core.proofs.replica.Replica.take_hello.Goals as goal

pub returns-then-ne-clause-ok : goal.returns-then-ne-clause-ok
returns-then-ne-clause-ok g c =
    let old = of_parts c.self.inside.name c.self.inside.live c.self.inside.group
    c.self.inside.opened c.self.inside.sessions.items c.self.inside.answerer in
    let is = mapped c.self.inside.live.0 c.store.result.now c.store.ensures.value c.store.ensures.filled c.store.ensures.canonical in
    let mail = Hello c.args.session (has c.args.seen.now) in
    rw (← c.self.view_is) (told_by g.H.PathHash.hash_of old old (Take mail) c.silent.result.outcome told.Ignored c.silent.result.replies.items
    c.silent.ensures.outcome c.silent.ensures.replies
    (ignored_came g.H.PathHash.hash_of old is mail
    (is_away c.answerer.result c.args.session.answerer old.name c.answerer.ensures c.ne.result c.ne.ensures c.if-ne.true)))

pub returns-in-Err-clause-unchanged : goal.returns-in-Err-clause-unchanged
returns-in-Err-clause-unchanged g c =
    let old = of_parts c.self.inside.name c.self.inside.live c.self.inside.group
    c.self.inside.opened c.self.inside.sessions.items c.self.inside.answerer in
    let new = of_parts c.self.inside.name c.seal.new.self c.self.inside.group c.self.inside.opened c.self.inside.sessions.items c.hello.new.self in
    let stays : Stays old new = record {
      same = meaning_by new (meaning old) refl (ap (λ (l : LiveValue _ _). live_state l.0) c.seal.ensures.same) refl refl refl
          (ap (map kept_of) c.in-Err.ensures.unchanged);
      waiting = refl;
      hash = ap (λ (l : LiveValue _ FieldsValue). l.0.0.0) c.seal.ensures.same;
    } in
    rw (← c.self.view_is) stays

pub invariant_of-self-2 : goal.invariant_of-self-2
invariant_of-self-2 g c =
    let old = of_parts c.self.inside.name c.self.inside.live c.self.inside.group
    c.self.inside.opened c.self.inside.sessions.items c.self.inside.answerer in
    let new = of_parts c.self.inside.name c.seal.new.self c.self.inside.group c.self.inside.opened c.self.inside.sessions.items c.hello.new.self in
    let k : SnapshotValue _ = record { seen = c.args.seen.now; hash = c.store-2.result.now.0; map = c.store-2.result.now.1; context = c.context.result.now } in
    kept_is g.H.PathHash.hash_of old new refl (ap (λ (l : LiveValue _ _). l.0) c.seal.ensures.same)
    refl refl c.args.session k c.in-Ok.ensures.kept c.self.invariant
    (ap (λ (m : TrieMapValue _ FieldsValue). m.0) c.store-2.ensures.value ∙ ap (λ (l : LiveValue _ FieldsValue). l.0.0.0) c.seal.ensures.same)

pub returns-clause-ok : goal.returns-clause-ok
returns-clause-ok g c =
    let old = of_parts c.self.inside.name c.self.inside.live c.self.inside.group
    c.self.inside.opened c.self.inside.sessions.items c.self.inside.answerer in
    let new = of_parts c.self.inside.name c.seal.new.self c.self.inside.group c.self.inside.opened c.self.inside.sessions.items c.hello.new.self in
    let k : SnapshotValue _ = record { seen = c.args.seen.now; hash = c.store-2.result.now.0; map = c.store-2.result.now.1; context = c.context.result.now } in
    let is = mapped c.self.inside.live.0 c.store.result.now c.store.ensures.value c.store.ensures.filled c.store.ensures.canonical in
    let live = ap (λ (l : LiveValue _ _). l.0) c.seal.ensures.same in
    rw (← c.self.view_is) (answered_by g.H.PathHash.hash_of old new (Take (Hello c.args.session (has c.args.seen.now)))
    c.answered.result.outcome told.Sent c.answered.result.replies.items c.answered.ensures.outcome
    c.in-Ok.opening c.answered.ensures.replies
    (hello_came g.H.PathHash.hash_of old is c.self.invariant new c.args.session k (message_of c.in-Ok.opening)
    (is_here c.answerer.result c.args.session.answerer old.name c.answerer.ensures c.ne.result c.ne.ensures c.if-ne.false)
    (ap (λ (m : TrieMapValue _ FieldsValue). m.0) c.store-2.ensures.value ∙ ap (λ (l : LiveValue _ FieldsValue). l.0.0.0) c.seal.ensures.same)
    (ap (λ (m : TrieMapValue _ FieldsValue). m.1) c.store-2.ensures.value ∙ ap (λ (l : LiveValue _ FieldsValue). l.0.0.1) c.seal.ensures.same)
    (c.context.ensures.value ∙ ap (λ (l : LiveValue _ FieldsValue). l.0.1) c.seal.ensures.same)
    c.in-Ok.ensures.opening
    (kept_meaning g.H.PathHash.hash_of old new refl live refl refl c.args.session k c.in-Ok.ensures.kept refl) refl
    (ap (λ (l : LiveValue _ FieldsValue). l.0.0.0) c.seal.ensures.same)))

pub returns-then-ne-clause-posted : goal.returns-then-ne-clause-posted
returns-then-ne-clause-posted g c = posted_none g.O.Outbox.gains c.args.outbox.now c.silent.result.replies.items c.silent.ensures.replies

pub returns-clause-posted : goal.returns-clause-posted
returns-clause-posted g c =
    posted_one g.O.Outbox.gains c.args.outbox.now c.hello.new.outbox c.in-Ok.opening c.answered.result.replies.items c.in-Ok.ensures.posted
    c.answered.ensures.replies
