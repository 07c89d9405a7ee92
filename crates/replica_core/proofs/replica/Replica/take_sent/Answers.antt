use Rattle.std.proofs.Common.{map, sym, subst}
use Rattle.wire_form.specs.Message.{message_of}
use Rattle.replica_core.specs.Carrying.{AreLetters}
use Rattle.replica_core.specs.Stepping.{mails_of}
use Rattle.replica_core.proofs.Written.{mails_are, posted_letters, sends}
use Rattle.replica_core.proofs.replica.Replica.take_sent.Goals as goal

pub returns-in-Ok-clause-ok : goal.returns-in-Ok-clause-ok
returns-in-Ok-clause-ok g c =
    let replies = c.in-Ok.told.replies.items in
    let out = map message_of replies in
    sends g.H.PathHash.hash_of _ c.deliver_to.new.self _ _ (mails_of replies) out _ (mails_are replies) c.in-Ok.ensures.ok
    (subst (λ ls. AreLetters ls out) (sym c.into_letters.ensures)
    (posted_letters c.new-letters.result c.deliver_to.new.outbox out c.new-letters.ensures c.in-Ok.ensures.posted))
