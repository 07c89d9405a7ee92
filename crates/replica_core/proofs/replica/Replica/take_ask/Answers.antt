use Rattle.wire_form.specs.Message.{message_of}
use Rattle.replica_model.specs.Mail.{Ask}
use Rattle.replica_model.specs.Step.{Take}
use Rattle.replica_core.specs.declared.outcome.Outcome.TheVariants as told
use Rattle.replica_core.proofs.Asks.{told_by, answered_by, is_away, is_here}
use Rattle.replica_core.proofs.Came.{ask_came, ask_ignored, ignored_came}
use Rattle.replica_core.proofs.MappedPair.{mapped}
use Rattle.replica_core.proofs.Posted.{posted_none}
use Rattle.replica_core.proofs.Meant.{of_parts}
use Rattle.replica_core.proofs.replica.Replica.take_ask.Goals as goal

pub returns-then-ne-clause-ok : goal.returns-then-ne-clause-ok
returns-then-ne-clause-ok g c =
    let old = of_parts c.self.inside.name c.self.inside.live c.self.inside.group
    c.self.inside.opened c.self.inside.sessions.items c.self.inside.answerer in
    let is = mapped c.self.inside.live.0 c.store.result.now c.store.ensures.value c.store.ensures.filled c.store.ensures.canonical in
    let mail = Ask c.args.session c.args.prefix in
    rw (← c.self.view_is) (told_by g.H.PathHash.hash_of old old (Take mail) c.silent.result.outcome told.Ignored c.silent.result.replies.items
    c.silent.ensures.outcome c.silent.ensures.replies
    (ignored_came g.H.PathHash.hash_of old is mail
    (is_away c.answerer.result c.args.session.answerer old.name c.answerer.ensures c.ne.result c.ne.ensures c.if-ne.true)))

pub returns-in_default-clause-ok : goal.returns-in_default-clause-ok
returns-in_default-clause-ok g c =
    let old = of_parts c.self.inside.name c.self.inside.live c.self.inside.group
    c.self.inside.opened c.self.inside.sessions.items c.self.inside.answerer in
    let is = mapped c.self.inside.live.0 c.store.result.now c.store.ensures.value c.store.ensures.filled c.store.ensures.canonical in
    rw (← c.self.view_is) (told_by g.H.PathHash.hash_of old old (Take (Ask c.args.session c.args.prefix))
    c.silent-in_default.result.outcome told.Ignored c.silent-in_default.result.replies.items
    c.silent-in_default.ensures.outcome c.silent-in_default.ensures.replies
    (ask_ignored g.H.PathHash.hash_of old is c.self.invariant c.args.session c.args.prefix (rw c.in_default.is at c.in_ok-answer.ensures.ok)))

pub returns-clause-ok : goal.returns-clause-ok
returns-clause-ok g c =
    let old = of_parts c.self.inside.name c.self.inside.live c.self.inside.group
    c.self.inside.opened c.self.inside.sessions.items c.self.inside.answerer in
    let is = mapped c.self.inside.live.0 c.store.result.now c.store.ensures.value c.store.ensures.filled c.store.ensures.canonical in
    rw (← c.self.view_is) (answered_by g.H.PathHash.hash_of old old (Take (Ask c.args.session c.args.prefix))
    c.in_ok-told.told.outcome told.Sent c.in_ok-told.told.replies.items c.in_ok-told.ensures.outcome
    c.in-Some.answer c.in_ok-told.ensures.replies
    (ask_came g.H.PathHash.hash_of old is c.self.invariant c.args.session c.args.prefix (message_of c.in-Some.answer)
    (is_here c.answerer.result c.args.session.answerer old.name c.answerer.ensures c.ne.result c.ne.ensures c.if-ne.false)
    (rw c.in-Some.is at c.in_ok-answer.ensures.ok)))

pub returns-then-ne-clause-posted : goal.returns-then-ne-clause-posted
returns-then-ne-clause-posted g c = posted_none g.O.Outbox.gains c.args.outbox.now c.silent.result.replies.items c.silent.ensures.replies

pub returns-in_default-clause-posted : goal.returns-in_default-clause-posted
returns-in_default-clause-posted g c =
    posted_none g.O.Outbox.gains c.args.outbox.now c.silent-in_default.result.replies.items c.silent-in_default.ensures.replies
