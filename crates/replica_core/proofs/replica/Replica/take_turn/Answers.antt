use Rattle.std.proofs.Common.{[], sym, ap, ◌∙◌}
use Rattle.replica_model.specs.Delivery.{turn, Ended}
use Rattle.replica_model.specs.Replica.{closes}
use Rattle.replica_core.specs.declared.outcome.Outcome.TheVariants as told
use Rattle.replica_core.specs.Meaning.{meaning}
use Rattle.replica_core.proofs.Goes.{silent_turn}
use Rattle.replica_core.proofs.replica.Replica.take_turn.Goals as goal

pub returns-in-Gone-clause-ok : goal.returns-in-Gone-clause-ok
returns-in-Gone-clause-ok g c =
    rw c.in-Gone.is (ap (λ r. turn r Ended []) (ap (closes (meaning c.args.self.now)) c.requires.2.session ∙ sym (c.end.ensures.step c.requires.0 c.requires.1))
    ∙ silent_turn (meaning c.end.new.self) c.silent-in-Gone.result.outcome told.Gone c.silent-in-Gone.result.replies.items c.silent-in-Gone.ensures.outcome
    c.silent-in-Gone.ensures.replies)

pub send-requires : goal.send-requires
send-requires g c = (c.requires.0, c.requires.1, rw c.in-Sent.is at c.requires.2)

pub returns-in-Sent-clause-ok : goal.returns-in-Sent-clause-ok
returns-in-Sent-clause-ok g c = rw c.in-Sent.is c.send.ensures.ok

pub close-requires : goal.close-requires
close-requires g c = (c.requires.0, c.requires.1, rw c.in-Done.is at c.requires.2)
