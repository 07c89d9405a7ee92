use Rattle.std.proofs.Common.{subst}
use Rattle.std.specs.Prelude.{IfSome}
use Rattle.causal_join.specs.OrMap.{or_map_state}
use Rattle.wire_form.specs.Message.{message_of}
use Rattle.replica_model.specs.Mail.{mail_of}
use Rattle.replica_core.specs.Bringing.{Brings}
use Rattle.replica_core.specs.Meaning.{hash_in, meaning}
use Rattle.ginelm_c.specs.Handling.{hash_of}
use Rattle.ginelm_c.proofs.bringing.brought.Goals as goal

pub returns : goal.returns
returns c =
    let here = c.args.replica.now in
    let message = message_of c.in_ok-message.message in
    let told = c.in_ok-letter_of.ensures.spelled in
    let brings = subst (λ found. IfSome found (λ delta. Brings (hash_of (hash_in here)) (meaning here) (mail_of message) (or_map_state delta))) c.in-Some.is
    c.in_ok-delta.ensures.ok in
    (message, c.in_ok-message.ensures.ok, (c.in_ok-letter_of.ensures.everyone, (or_map_state c.in-Some.delta, told.0, told.1, told.2, brings)))
