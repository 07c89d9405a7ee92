use Rattle.std.proofs.Common.{refl, ◌∙◌, ap}
use Rattle.std.proofs.lemmas.Result.{IfOk-weaker}
use Rattle.std.specs.Prelude.{map}
use Rattle.wire_form.specs.Message.{message_of}
use Rattle.sync_protocol.proofs.Turned.{again_asked, again_none, again_asks}
use Rattle.sync_protocol.proofs.asker.Asker.retry.Goals as goal

pub returns-then-is_asked-clause-ok : goal.returns-then-is_asked-clause-ok
returns-then-is_asked-clause-ok g c =
    IfOk-weaker c.hello_again.result _ _
    (λ messages told. again_asked c.args.self.now c.args.self.now.stage (map message_of messages.items)
    c.is_asked.result c.is_asked.ensures c.if-is_asked.true told)
    c.hello_again.ensures.ok

pub returns-in_default-clause-ok : goal.returns-in_default-clause-ok
returns-in_default-clause-ok g c =
    again_none c.args.self.now c.args.self.now.stage (map message_of c.new.result.items) c.is_asked.result c.is_asked.ensures c.if-is_asked.false
    (c.in_default.ensures.none refl) (ap (map message_of) c.new.ensures.items)

pub returns-clause-ok : goal.returns-clause-ok
returns-clause-ok g c =
    IfOk-weaker c.asks_for.result _ _
    (λ messages told. again_asks c.args.self.now c.args.self.now.stage c.in-Some.field-0-0.now c.in-Some.fetching.now (map message_of messages.items)
    c.deref.result.now c.self.inside.session
    c.in-Some.ensures.found told (ap (λ a. a.session) c.self.view_is) (c.deref.ensures.value ∙ c.in_ok-prefixes.ensures.ok))
    c.asks_for.ensures.ok
