use Rattle.std.proofs.Common.{map, sym, subst}
use Rattle.wire_form.specs.Message.{message_of}
use Rattle.replica_core.specs.Carrying.{AreLetters, Gains}
use Rattle.replica_core.specs.Stepping.{mails_of}
use Rattle.replica_core.proofs.Written.{gained_letters, mails_are, sends}
use Rattle.replica_core.proofs.replica.Replica.retry_bytes.Goals as goal

pub returns-in-Ok-clause-ok : goal.returns-in-Ok-clause-ok
returns-in-Ok-clause-ok g c =
    let replies = c.in_ok-told.told.replies.items in
    let out = map message_of replies in
    sends g.H.PathHash.hash_of _ _ _ _ (mails_of replies) out _ (mails_are replies) c.in_ok-told.ensures.ok
    (subst (λ ls. AreLetters ls out) (sym c.into_letters.ensures)
    (gained_letters c.new-letters.result c.post_all-posted.new.self out c.new-letters.ensures
    (subst (λ ms. Gains c.new-letters.result c.post_all-posted.new.self (map message_of ms)) c.as_slice.ensures.value c.in-Ok.ensures.ok)))
