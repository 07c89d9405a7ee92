use Rattle.std.proofs.Common.{sym, ap, ◌∙◌, subst, inl, arith}
use Rattle.std.specs.List.{slice_get}
use Rattle.std.proofs.lemmas.Result.{IfOk-weaker}
use Rattle.std.proofs.lemmas.Option.{slice_get_within, get_or_from_slice_get}
use Rattle.wire_form.specs.Message.{message_of}
use Rattle.sync_protocol.specs.Asking.{AskerValue, IsFrom, asker_state}
use Rattle.sync_protocol.specs.Turns.{step_of}
use Rattle.wire_form.specs.Session.{same_session}
use Rattle.replica_core.specs.Meaning.{ReplicaValue}
use Rattle.replica_core.specs.Own.{IsReplica}
use Rattle.replica_core.specs.Tied.{IsFirstAt}
use Rattle.replica_core.specs.Turning.{answered}
use Rattle.replica_core.proofs.Brought.{answer_brings}
use Rattle.replica_core.proofs.Takes.{answer_can}
use Rattle.replica_core.proofs.Meant.{of_parts}
use Rattle.replica_core.proofs.replica.Replica.joined_by_answer.Goals as goal

pub index-requires : goal.index-requires
index-requires g c =
    let found = c.in-Some.ensures.found in
    let within = slice_get_within c.deref.result.now c.in-Some.place found.0 found.1.0 in omega (arith, within, c.deref.ensures.len)

pub joined_by_turn-requires : goal.joined_by_turn-requires
joined_by_turn-requires g c =
    let found = rw c.deref.ensures.value at c.in-Some.ensures.found in
    let old = of_parts c.self.inside.name c.self.inside.live c.self.inside.group
    c.self.inside.opened c.self.inside.sessions.items c.self.inside.answerer in
    let here = c.index.ensures ∙ get_or_from_slice_get c.self.inside.sessions.items c.in-Some.place found.0 c.index.result.now found.1.0 in (
      found.0,
      ap (λ (r : ReplicaValue _). slice_get r.sessions c.in-Some.place) (sym c.self.view_is) ∙ found.1.0,
      answer_can g.H.PathHash.hash_of old c.self.invariant c.args.session c.in-Some.place found.0 found.1 c.in_ok-turn.turn.next
          (step_of c.in_ok-turn.turn.step)
          (subst (λ (a : AskerValue _). IsFrom a c.in_ok-turn.turn.next) here c.in_ok-turn.ensures.from)
          (message_of c.args.message.now)
          (c.in_ok-turn.ensures.ok ∙ ap (λ (a : AskerValue _). answered (g.H.PathHash.hash_of a.hash) (asker_state a) (message_of c.args.message.now)) here)
          (inl c.requires),
    )

pub returns-clause-ok : goal.returns-clause-ok
returns-clause-ok g c =
    let found = rw c.deref.ensures.value at c.in-Some.ensures.found in
    let now = c.args.self.now in
    let here = c.index.ensures ∙ get_or_from_slice_get c.self.inside.sessions.items c.in-Some.place found.0 c.index.result.now found.1.0 in
    let first = subst (λ (r : ReplicaValue _). IsFirstAt (λ (b : AskerValue _). same_session b.session c.args.session) r.sessions c.in-Some.place found.0)
    c.self.view_is found.1 in
    let is = subst (IsReplica g.H.PathHash.hash_of) c.self.view_is c.self.invariant in
    IfOk-weaker c.joined_by_turn.result _ _
    (λ told closing. answer_brings g.H.PathHash.hash_of now is c.args.session c.in-Some.place found.0 first c.in_ok-turn.turn.next
    (step_of c.in_ok-turn.turn.step)
    (subst (λ (a : AskerValue _). IsFrom a c.in_ok-turn.turn.next) here c.in_ok-turn.ensures.from)
    (message_of c.args.message.now) told closing c.requires
    (c.in_ok-turn.ensures.ok ∙ ap (λ (a : AskerValue _). answered (g.H.PathHash.hash_of a.hash) (asker_state a) (message_of c.args.message.now)) here))
    c.joined_by_turn.ensures.ok
