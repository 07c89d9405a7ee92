use Rattle.std.proofs.Common.{◌∙◌, ap}
use Rattle.wire_form.specs.Message.{Hello}
use Rattle.sync_protocol.proofs.asker.Asker.open.Goals as goal

pub returns-clause-hello : goal.returns-clause-hello
returns-clause-hello g c = c.hello.ensures ∙ ap (Hello c.args.session) c.in_ok-known.ensures.equal
