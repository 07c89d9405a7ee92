use Rattle.std.proofs.Common.{◌≡◌, ◌∙◌, IfOk, Some, None, ap, sym}
use Rattle.std.specs.Option.{option_copied, option_map}
use Rattle.wire_form.specs.Message.{message_of}
use Rattle.sync_protocol.specs.Answering.{snapshot_of, answer_with}
use Rattle.sync_protocol.proofs.Kept.{answer_is}
use Rattle.sync_protocol.proofs.answerer.Answerer.ask.Goals as goal

pub returns-in-None-clause-ok : goal.returns-in-None-clause-ok
returns-in-None-clause-ok g c =
    let s = c.args.session in
    let none : snapshot_of c.args.self.now s ≡ None =
    ap (λ kept. snapshot_of kept s) (sym c.self.view_is) ∙ sym c.get.ensures.value ∙ ap option_copied c.in-None.is in
    ap Some c.gone.ensures ∙ ap (answer_with g.H.PathHash.hash_of s c.args.prefix) (sym none)

pub returns-in-Some-clause-ok : goal.returns-in-Some-clause-ok
returns-in-Some-clause-ok g c =
    let s = c.args.session in
    let found : snapshot_of c.args.self.now s ≡ Some c.in-Some.snapshot.now =
    ap (λ kept. snapshot_of kept s) (sym c.self.view_is) ∙ sym c.get.ensures.value ∙ ap option_copied c.in-Some.is in
    answer_is g.H.PathHash.hash_of (λ told. IfOk c.page.result (λ answer. option_map message_of answer ≡ told))
    c.args.self.now s c.args.prefix c.in-Some.snapshot.now found c.page.ensures.ok
