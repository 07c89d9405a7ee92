use Rattle.std.proofs.Common.{arith}
use Rattle.wire_form.proofs.Texts.{no_length, length_begins, no_text, text_begins}
use Rattle.wire_form.proofs.text.text_at.Goals as goal

pub returns-then-bytes-lt2 : goal.returns-then-bytes-lt2
returns-then-bytes-lt2 c = no_length c.args.bytes.now c.if-bytes-lt2.true

pub returns-then-rest-length : goal.returns-then-rest-length
returns-then-rest-length c =
    let long = length_begins c.args.bytes.now c.split_at.result.0.now c.split_at.result.1.now c.from_be_bytes-length.result
    (λ i. omega (arith, c.type_inv.bytes i)) c.if-bytes-lt2.false c.split_at.ensures.front c.split_at.ensures.back c.from_be_bytes-length.ensures in
    no_text c.args.bytes.now c.split_at.result.1.now c.from_be_bytes-length.result long.0 long.1 c.if-rest-length.true

pub returns : goal.returns
returns c =
    let long = length_begins c.args.bytes.now c.split_at.result.0.now c.split_at.result.1.now c.from_be_bytes-length.result
    (λ i. omega (arith, c.type_inv.bytes i)) c.if-bytes-lt2.false c.split_at.ensures.front c.split_at.ensures.back c.from_be_bytes-length.ensures in
    text_begins c.args.bytes.now c.split_at.result.1.now c.split_at-2.result.0.now c.split_at-2.result.1.now c.from_be_bytes-length.result long.0 long.1
    c.if-rest-length.false c.split_at-2.ensures.front c.split_at-2.ensures.back
