use Rattle.std.proofs.Common.{sym, subst}
use Rattle.replica_core.specs.Carrying.{AreLetters}
use Rattle.replica_core.specs.Stepping.{mail_or_none, message_or_none}
use Rattle.replica_core.proofs.Written.{few_letters, mail_is, posted_letters, sends}
use Rattle.replica_core.proofs.replica.Replica.flush_joined.Goals as goal

pub into_only-requires : goal.into_only-requires
into_only-requires g c = few_letters c.flush_to.new.outbox c.in-Ok.sent
    (posted_letters c.new-letters.result c.flush_to.new.outbox (message_or_none c.in-Ok.sent) c.new-letters.ensures c.in-Ok.ensures.posted)

pub returns-in-Ok-clause-ok : goal.returns-in-Ok-clause-ok
returns-in-Ok-clause-ok g c =
    let out = message_or_none c.in-Ok.sent in
    sends g.H.PathHash.hash_of _ c.flush_to.new.self _ _ (mail_or_none c.in-Ok.sent) out _ (mail_is c.in-Ok.sent) c.in-Ok.ensures.ok
    (subst (λ ls. AreLetters ls out) (sym c.into_only.ensures)
    (posted_letters c.new-letters.result c.flush_to.new.outbox out c.new-letters.ensures c.in-Ok.ensures.posted))
