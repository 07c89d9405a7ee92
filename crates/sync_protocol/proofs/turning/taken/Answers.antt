use Rattle.std.proofs.Common.{◌≡◌, sym, ◌∙◌, ap, subst}
use Rattle.std.proofs.lemmas.Result.{IfOk-weaker}
use Rattle.std.specs.Prelude.{map, IfOk}
use Rattle.page_fetching.specs.Taken.{taken_of, asked_of}
use Rattle.wire_form.specs.Message.{Ask, message_of}
use Rattle.sync_protocol.specs.Asking.{stage_with}
use Rattle.sync_protocol.specs.Turning.{comes_to}
use Rattle.sync_protocol.specs.Turns.{turn_of}
use Rattle.sync_protocol.proofs.Turned.{turn_took}
use Rattle.sync_protocol.proofs.turning.taken.Goals as goal

pub returns-in-Ok-clause-ok : goal.returns-in-Ok-clause-ok
returns-in-Ok-clause-ok g c asks =
    subst (λ t. asked_of t asks → IfOk c.go_on.result (λ turn. turn_of turn
    ≡ comes_to c.args.asker.now.session c.args.asker.now.own c.args.asker.now.seen c.args.context.now
    (stage_with c.args.asker.now.own c.args.asker.now.seen c.args.asker.now.stage) (map (Ask c.args.asker.now.session) asks) (taken_of t))) (sym c.in-Took.is)
    (λ same. IfOk-weaker c.go_on.result _ _
    (λ turn came. turn_took c.args.asker.now (turn_of turn) c.args.context.now (stage_with c.args.asker.now.own c.args.asker.now.seen c.args.asker.now.stage)
    (map message_of c.in-Ok.asks.items)
    c.in-Took.fetching c.deref.result.now asks c.asker.inside.session came c.in-Ok.ensures.ok (ap (λ a. a.session) c.asker.view_is)
    (c.deref.ensures.value ∙ same))
    c.go_on.ensures.ok)
