use Rattle.std.proofs.Common.{[], ◌∷◌, ◌++◌, ◌-◌, ◌^◌, refl, sym, subst, ◌∙◌, arith}
use Rattle.std.specs.Prelude.{IsSome}
use Rattle.wire_form.specs.Message.{SpellsNone}
use Rattle.node_threads.specs.Serving.{CanCome, IsAnswered, NoMessage, Refused, Taken, lost, not_messages, refused, unsent}
use Rattle.node_threads.proofs.Inboxes.{took_as_nothing, took_nothing, took_one, took_then}
use Rattle.node_threads.proofs.Posts.{counts_none, counts_on, no_message_more, refused_more, taken_more}
use Rattle.node_threads.proofs.serving.serve.Goals.{in-Ok, in-Err-NoMessage, in-Err-Refused, in-None, in-Some+in_default}
use Rattle.node_threads.proofs.serving.serve.Goals as goal

pub loop-init : goal.loop-init
loop-init g c = (took_nothing (CanCome g.P.Post.receives) c.args.client.now, c.operations-begun.ensures, ([], (refl, refl), refl, refl, refl, refl))

pub loop-preserved : goal.loop-preserved
loop-preserved g c =
    let receives = g.P.Post.receives in
    let sends = g.P.Post.sends in
    let rests = g.P.Post.rests in
    let first = g.K.Naming.first in
    let Comes = CanCome receives in
    let bytes = c.in-Some-receive.bytes.items in
    let begun = c.args.post.now in
    let before = c.loop.post in
    let mid = c.receive.new.self in
    let last = c.answer.new.post in
    let oldest = c.args.client.now in
    let old = c.loop.client in
    let new = c.answer.new.client in
    let limit = 2 ^ 64 - 1 in
    let told = c.loop.invariant.2 in
    let steps = told.0 in
    let came : receives before mid bytes = c.in-Some-receive.ensures.received in
    elim c.match-answer.branch [
      | in-Ok w ↦
          let n = w.in-Ok.missed.unsent in
          let m = w.in-Ok.missed.lost in
          let turn = Taken n m in
          let answered : IsAnswered receives sends rests first bytes mid last old new n m =
          subst (λ b. IsAnswered receives sends rests first b mid last old new n m) c.deref.ensures.value w.in-Ok.ensures.taken in
          let taken = answered.2 in (
            took_then Comes oldest old new c.loop.invariant.0
                (took_one Comes old new taken.1 _ taken.3 refl (taken.0, refl, (bytes, (before, mid, came), taken.2))),
            c.loop.invariant.1,
            (
              steps ++ turn ∷ [],
              taken_more receives sends rests first last new begun before oldest old steps n m told.1 (bytes, mid, came, answered),
              w.not_messages-is ∙ counts_none limit not_messages steps turn c.loop.not_messages refl told.2,
              w.refused-is ∙ counts_none limit refused steps turn c.loop.refused refl told.3,
              w.unsent-is ∙ w.saturating_add-unsent.ensures ∙ counts_on limit unsent steps turn c.loop.unsent told.4,
              w.lost-is ∙ w.saturating_add-lost.ensures ∙ counts_on limit lost steps turn c.loop.lost told.5,
            ),
          )
      | in-Err-NoMessage w ↦
          let passed = w.in-Err-NoMessage.ensures.passed in
          let none = subst SpellsNone c.deref.ensures.value (w.in-Err-NoMessage.ensures.no_message w.in-Err-NoMessage.field-0-is) in (
            took_then Comes oldest old new c.loop.invariant.0 (took_as_nothing Comes old new passed.0),
            c.loop.invariant.1,
            (
              steps ++ NoMessage ∷ [],
              no_message_more receives sends rests first last new begun before oldest old steps told.1
                  (bytes, subst (λ r. receives before r bytes) (sym passed.1) came, none, passed.0),
              w.not_messages-is ∙ w.saturating_add-not_messages.ensures ∙ counts_on limit not_messages steps NoMessage c.loop.not_messages told.2,
              w.refused-is ∙ counts_none limit refused steps NoMessage c.loop.refused refl told.3,
              w.unsent-is ∙ counts_none limit unsent steps NoMessage c.loop.unsent refl told.4,
              w.lost-is ∙ counts_none limit lost steps NoMessage c.loop.lost refl told.5,
            ),
          )
      | in-Err-Refused w ↦
          let passed = w.in-Err-Refused.ensures.passed in (
            took_then Comes oldest old new c.loop.invariant.0 (took_as_nothing Comes old new passed.0),
            c.loop.invariant.1,
            (
              steps ++ Refused ∷ [],
              refused_more receives sends rests first last new begun before oldest old steps told.1
                  (bytes, subst (λ r. receives before r bytes) (sym passed.1) came, tt, passed.0),
              w.not_messages-is ∙ counts_none limit not_messages steps Refused c.loop.not_messages refl told.2,
              w.refused-is ∙ w.saturating_add-refused.ensures ∙ counts_on limit refused steps Refused c.loop.refused told.3,
              w.unsent-is ∙ counts_none limit unsent steps Refused c.loop.unsent refl told.4,
              w.lost-is ∙ counts_none limit lost steps Refused c.loop.lost refl told.5,
            ),
          )
    ]

pub overflow_sub-result : goal.overflow_sub-result
overflow_sub-result g c = omega (arith, c.operations.ensures, c.operations-begun.ensures, c.loop.invariant.0.calls.3)

pub returns-clause-took_in : goal.returns-clause-took_in
returns-clause-took_in g c = c.loop.invariant.0

pub returns-clause-delivered : goal.returns-clause-delivered
returns-clause-delivered g c = omega (arith, c.operations.ensures, c.operations-begun.ensures, c.loop.invariant.0.calls.3)

pub returns-clause-served : goal.returns-clause-served
returns-clause-served g c =
    let ends : g.P.Post.ends c.loop.post c.match-next.post = elim c.match-next.branch [
      | in-None w ↦ absurd (cc (subst IsSome w.in-None.is c.next.ensures.steps))
      | in-Some+in_default w ↦ subst (g.P.Post.ends c.loop.post) (sym w.post-is) (w.in_default.ensures.ended refl)
    ] in
    let told = c.loop.invariant.2 in
    (told.0, c.loop.post, told.1, ends, told.2, told.3, told.4, told.5)
