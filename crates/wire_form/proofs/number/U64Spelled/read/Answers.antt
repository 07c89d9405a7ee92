use Rattle.std.proofs.Common.{arith}
use Rattle.wire_form.proofs.Numbers.{no_number, number_begins}
use Rattle.wire_form.proofs.number.U64Spelled.read.Goals as goal

pub returns-then-bytes-lt8 : goal.returns-then-bytes-lt8
returns-then-bytes-lt8 g c = no_number c.args.bytes.now c.if-bytes-lt8.true

pub returns : goal.returns
returns g c =
    number_begins c.args.bytes.now c.split_at.result.0.now c.split_at.result.1.now c.from_be_bytes-number.result (λ i. omega (arith, c.type_inv.bytes i))
    c.if-bytes-lt8.false c.split_at.ensures.front c.split_at.ensures.back c.from_be_bytes-number.ensures
