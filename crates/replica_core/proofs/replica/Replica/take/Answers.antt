use Rattle.std.proofs.Common.{[], refl, sym, subst}
use Rattle.causal_join.specs.OrMap.{or_map_state}
use Rattle.wire_form.specs.Message.{message_of}
use Rattle.replica_model.specs.Mail.{Delta, mail_of}
use Rattle.replica_model.specs.Step.{Take, Came}
use Rattle.replica_core.specs.Answered.{outcome_of}
use Rattle.replica_core.specs.Carrying.{AreLetters, Sends, letters_of}
use Rattle.replica_core.proofs.Written.{sends}
use Rattle.replica_core.proofs.replica.Replica.take.Goals as goal

pub returns-in_ok-take_over-in-Delta-clause-ok : goal.returns-in_ok-take_over-in-Delta-clause-ok
returns-in_ok-take_over-in-Delta-clause-ok g c =
    let hash_of = g.H.PathHash.hash_of in
    let letters = c.joined.result.letters.items in
    subst (λ m. Sends hash_of c.args.self.now c.take_over.new.self (Take (mail_of (message_of m))) (Came (outcome_of c.joined.result.outcome)) (letters_of letters))
    (sym c.in-Delta.is)
    (subst (λ o. Sends hash_of c.args.self.now c.take_over.new.self (Take (Delta (or_map_state c.in-Delta.delta))) (Came (outcome_of o)) (letters_of letters))
    (sym c.joined.ensures.outcome)
    (sends hash_of _ c.take_over.new.self _ _ [] [] _ refl c.in_ok-take_over-in-Delta.ensures.ok
    (subst (λ ls. AreLetters (letters_of ls) []) (sym c.joined.ensures.letters) tt)))
