use Rattle.std.proofs.Common.{refl}
use Rattle.ginelm_c.specs.declared.texts.Texts.TheVariants.{Sent}
use Rattle.ginelm_c.proofs.SentParts.{sent_at_most}
use Rattle.ginelm_c.proofs.sending.flush_at_most.Goals as goal

pub returns-clause-ok : goal.returns-clause-ok
returns-clause-ok c =
    sent_at_most c.args.held.now (record (c.args.held.now) { replica = c.flush_at_most.new.self; texts = Sent c.in_ok-letter.letter }) c.args.most
    c.in_ok-letter.letter refl c.in_ok-letter.ensures.ok c.in_ok-letter.ensures.some c.in_ok-letter.ensures.none
