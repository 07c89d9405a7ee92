use Rattle.wire_form.specs.Message.{message_of}
use Rattle.wire_form.proofs.Messages.{only_message}
use Rattle.wire_form.proofs.decoding.decode.Goals as goal

pub returns-clause-only : goal.returns-clause-only
returns-clause-only g c = only_message message_of c.args.bytes.now c.read_message.result c.read_message.ensures
