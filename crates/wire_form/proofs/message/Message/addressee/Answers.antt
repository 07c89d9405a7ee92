use Rattle.std.proofs.Common.{rules}
use Rattle.wire_form.proofs.message.Message.addressee.Goals as goal

-- src/message.rt
pub returns-in-Ask : goal.returns-in-Ask
returns-in-Ask A c = rw c.in-Ask.is (search (rules))
