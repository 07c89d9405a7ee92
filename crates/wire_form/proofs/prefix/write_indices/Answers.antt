use Rattle.std.proofs.Common.{refl, arith, ap, length}
use Rattle.wire_form.proofs.Routes.{index_written, indices_written}
use Rattle.wire_form.proofs.prefix.write_indices.Goals as goal

pub loop-first-init : goal.loop-first-init
loop-first-init g c = refl

pub loop-first-smaller : goal.loop-first-smaller
loop-first-smaller g c = omega (arith, ap length c.in-Some.ensures.parts)

pub loop-first-preserved : goal.loop-first-preserved
loop-first-preserved g c =
    index_written c.args.out.now.items c.loop-first.out.items c.push.new.self.items c.args.prefix c.loop-first.rest c.in-Some.first.1 c.in-Some.first.0
    c.loop-first.invariant c.in-Some.ensures.parts c.in_ok-push.ensures.items

pub returns-clause-ok : goal.returns-clause-ok
returns-clause-ok g c = indices_written c.args.out.now.items c.loop-first.out.items c.args.prefix c.loop-first.rest c.loop-first.invariant
    c.in_default.ensures.parts
