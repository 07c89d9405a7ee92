use Rattle.std.proofs.Common.{[], ◌∷◌, Some, refl, sym, subst}
use Rattle.wire_form.specs.Message.{message_of}
use Rattle.replica_model.specs.Mail.{mail_of}
use Rattle.replica_core.specs.Carrying.{AreLetters}
use Rattle.replica_core.proofs.Written.{few_letters, gained_letters, sends}
use Rattle.replica_core.proofs.replica.Replica.ask_bytes.Goals as goal

pub into_only-requires : goal.into_only-requires
into_only-requires g c =
    few_letters c.ask_to.new.outbox (Some c.in-Ok.hello) (gained_letters c.new-letters.result c.ask_to.new.outbox (message_of c.in-Ok.hello ∷ [])
    c.new-letters.ensures c.in-Ok.ensures.posted)

pub returns-in-Some-clause-ok : goal.returns-in-Some-clause-ok
returns-in-Some-clause-ok g c =
    let out = message_of c.in-Ok.hello ∷ [] in
    sends g.H.PathHash.hash_of _ c.ask_to.new.self _ _ (mail_of (message_of c.in-Ok.hello) ∷ []) out _ refl c.in-Ok.ensures.ok
    (subst (λ ls. AreLetters ls out) (sym c.in-Some.ensures)
    (gained_letters c.new-letters.result c.ask_to.new.outbox out c.new-letters.ensures c.in-Ok.ensures.posted))
