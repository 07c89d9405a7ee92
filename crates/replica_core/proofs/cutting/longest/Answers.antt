use Rattle.std.proofs.Common.{◌≡◌, ◌<◌, ◌*◌, ◌-◌, ◌^◌, length, subst, arith}
use Rattle.std.specs.Prelude.{min}
use Rattle.replica_core.specs.Carrying.{letter_of}
use Rattle.replica_core.proofs.Cuts.{twice_or_all}
use Rattle.replica_core.proofs.cutting.longest.Goals as goal

pub returns-then-len-most-clause-most : goal.returns-then-len-most-clause-most
returns-then-len-most-clause-most g c =
    let all = c.len-in-loop-number.ensures in
    let bound = c.len-in-loop-number.type_inv in
    let more : c.min-more.result ≡ min (min (c.loop-number.number * 2) (2 ^ 64 - 1)) (length c.args.group.now) =
    let twice = c.saturating_mul.ensures in
    let least = c.min-more.ensures in
    subst (λ n. c.min-more.result ≡ min n (length c.args.group.now)) twice
    (subst (λ n. c.min-more.result ≡ min c.saturating_mul.result n) all least) in
    let spelled = c.in-Ok.longer.bytes.ok.0 in
    let told = c.len-in-loop-number-2.ensures in
    let past = c.if-len-most.true in
    let long : c.args.most < length c.in-Ok.longer.bytes.items = omega (arith, spelled, told, past) in
    twice_or_all c.args.group.now c.loop-number.number c.args.most c.min-more.result (letter_of c.in-Ok.longer) (omega (arith, all, bound)) more
    c.in-Ok.ensures.ok long
