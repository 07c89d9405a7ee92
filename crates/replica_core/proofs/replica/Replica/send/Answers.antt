use Rattle.std.proofs.Common.{sym, ap, ◌∙◌}
use Rattle.std.specs.Prelude.{map}
use Rattle.wire_form.specs.Message.{message_of}
use Rattle.replica_model.specs.Delivery.{turn, Sent}
use Rattle.replica_core.specs.Meaning.{meaning}
use Rattle.replica_core.proofs.Asks.{mails_are}
use Rattle.replica_core.proofs.Turns.{sent_turned}
use Rattle.replica_core.proofs.replica.Replica.send.Goals as goal

pub returns-clause-ok : goal.returns-clause-ok
returns-clause-ok g c =
    sent_turned (meaning c.args.self.now) (meaning c.advance.new.self) c.args.next (map message_of c.args.replies.items)
    c.advance.ensures.step c.requires.2.gives.is_open
    ∙ ap (turn (meaning c.advance.new.self) Sent) (sym (mails_are c.args.replies.items))

pub advance-requires : goal.advance-requires
advance-requires g c = (c.requires.0, c.requires.1, c.requires.2.session, c.requires.2.goes_from, c.requires.2.gives)
