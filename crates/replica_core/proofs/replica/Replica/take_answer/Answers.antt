use Rattle.std.proofs.Common.{refl, sym, ap, ◌∙◌, subst, arith}
use Rattle.std.proofs.lemmas.Result.{IfOk-weaker}
use Rattle.std.proofs.lemmas.Option.{slice_get_within, get_or_from_slice_get}
use Rattle.delta_ops.specs.LiveMap.{live_state}
use Rattle.prefix_digest.specs.MapOf.{IsMapOf}
use Rattle.wire_form.specs.Message.{message_of}
use Rattle.sync_protocol.specs.Asking.{AskerValue, IsFrom, asker_state}
use Rattle.sync_protocol.specs.Turns.{step_of}
use Rattle.replica_model.specs.Mail.{mail_of}
use Rattle.wire_form.specs.Session.{same_session}
use Rattle.replica_model.specs.Step.{Take}
use Rattle.replica_core.specs.declared.outcome.Outcome.TheVariants as told
use Rattle.replica_core.specs.Answered.{outcome_of}
use Rattle.replica_core.specs.Meaning.{ReplicaValue}
use Rattle.replica_core.specs.Own.{IsReplica}
use Rattle.replica_core.specs.Stepping.{mails_of}
use Rattle.replica_core.specs.Tied.{IsFirstAt}
use Rattle.replica_core.specs.Turning.{answered}
use Rattle.replica_core.proofs.Asks.{told_by}
use Rattle.replica_core.proofs.MappedPair.{mapped}
use Rattle.replica_core.proofs.Takes.{no_answer, answer_can, answer_stepped}
use Rattle.replica_core.proofs.Posted.{posted_none}
use Rattle.replica_core.proofs.Meant.{of_parts}
use Rattle.replica_core.proofs.replica.Replica.take_answer.Goals as goal

pub returns-in_default-clause-ok : goal.returns-in_default-clause-ok
returns-in_default-clause-ok g c =
    let old = of_parts c.self.inside.name c.self.inside.live c.self.inside.group
    c.self.inside.opened c.self.inside.sessions.items c.self.inside.answerer in
    let is = mapped c.self.inside.live.0 c.store.result.now c.store.ensures.value c.store.ensures.filled c.store.ensures.canonical in
    rw (← c.self.view_is) (told_by g.H.PathHash.hash_of old old (Take (mail_of (message_of c.args.message.now)))
    c.silent.result.outcome told.Ignored c.silent.result.replies.items c.silent.ensures.outcome
    c.silent.ensures.replies (no_answer g.H.PathHash.hash_of old is c.args.session (rw c.deref.ensures.value at (c.in_default.ensures.none refl))
    (message_of c.args.message.now) c.requires))

pub index-requires : goal.index-requires
index-requires g c =
    let found = c.in-Some.ensures.found in
    let within = slice_get_within c.deref.result.now c.in-Some.place found.0 found.1.0 in omega (arith, within, c.deref.ensures.len)

pub take_turn-requires : goal.take_turn-requires
take_turn-requires g c =
    let found = rw c.deref.ensures.value at c.in-Some.ensures.found in
    let old = of_parts c.self.inside.name c.self.inside.live c.self.inside.group
    c.self.inside.opened c.self.inside.sessions.items c.self.inside.answerer in
    let here = c.index.ensures ∙ get_or_from_slice_get c.self.inside.sessions.items c.in-Some.place found.0 c.index.result.now found.1.0 in (
      found.0,
      ap (λ (r : ReplicaValue _). Rattle.std.specs.List.slice_get r.sessions c.in-Some.place) (sym c.self.view_is) ∙ found.1.0,
      answer_can g.H.PathHash.hash_of old c.self.invariant c.args.session c.in-Some.place found.0 found.1 c.in_ok-turn.turn.next
          (step_of c.in_ok-turn.turn.step)
          (subst (λ (a : AskerValue _). IsFrom a c.in_ok-turn.turn.next) here c.in_ok-turn.ensures.from) (message_of c.args.message.now)
          (c.in_ok-turn.ensures.ok ∙ ap (λ (a : AskerValue _). answered (g.H.PathHash.hash_of a.hash) (asker_state a) (message_of c.args.message.now)) here)
          c.requires,
    )

pub returns-clause-ok : goal.returns-clause-ok
returns-clause-ok g c =
    let found = rw c.deref.ensures.value at c.in-Some.ensures.found in
    let now = c.args.self.now in
    let here = c.index.ensures ∙ get_or_from_slice_get c.self.inside.sessions.items c.in-Some.place found.0 c.index.result.now found.1.0 in
    let first = subst (λ (r : ReplicaValue _). IsFirstAt (λ (b : AskerValue _). same_session b.session c.args.session) r.sessions c.in-Some.place found.0)
    c.self.view_is found.1 in
    let is = subst (IsReplica g.H.PathHash.hash_of) c.self.view_is c.self.invariant in
    let map_is = subst (λ (r : ReplicaValue _). IsMapOf r.live.0.0.1 (live_state r.live.0)) c.self.view_is
    (mapped c.self.inside.live.0 c.store.result.now c.store.ensures.value c.store.ensures.filled c.store.ensures.canonical) in
    IfOk-weaker c.take_turn.result _ _
    (λ told came. answer_stepped g.H.PathHash.hash_of now is c.args.session c.in-Some.place found.0 first c.in_ok-turn.turn.next
    (step_of c.in_ok-turn.turn.step)
    (subst (λ (a : AskerValue _). IsFrom a c.in_ok-turn.turn.next) here c.in_ok-turn.ensures.from) (message_of c.args.message.now)
    (c.in_ok-turn.ensures.ok ∙ ap (λ (a : AskerValue _). answered (g.H.PathHash.hash_of a.hash) (asker_state a) (message_of c.args.message.now)) here)
    c.requires map_is c.take_turn.new.self (outcome_of told.outcome) (mails_of told.replies.items) came c.take_turn.ensures.waiting c.take_turn.ensures.hash)
    c.take_turn.ensures.ok

pub returns-in_default-clause-posted : goal.returns-in_default-clause-posted
returns-in_default-clause-posted g c = posted_none g.O.Outbox.gains c.args.outbox.now c.silent.result.replies.items c.silent.ensures.replies
