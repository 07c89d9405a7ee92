use Rattle.std.proofs.Common.{arith}
use Rattle.wire_form.proofs.Routes.{no_next_index, longer_parts, indices_begin}
use Rattle.wire_form.proofs.prefix.read_indices.Goals as goal

pub loop-rest-init : goal.loop-rest-init
loop-rest-init c = record { parts = rw c.root-prefix.ensures; within = rw c.root-prefix.ensures (omega arith) }

pub returns-in_default : goal.returns-in_default
returns-in_default c =
    no_next_index c.args.bytes.now c.args.depth c.loop-rest.prefix c.loop-rest.rest.now c.loop-rest.invariant.parts
    (omega (arith, c.depth.ensures.length, c.from.ensures, c.loop-rest-test.true)) c.in_default.ensures

pub loop-rest-smaller : goal.loop-rest-smaller
loop-rest-smaller c = let longer = c.in-Some.ensures in omega (arith, longer.more, c.depth.ensures.length, c.from.ensures, c.loop-rest-test.true)

pub loop-rest-preserved : goal.loop-rest-preserved
loop-rest-preserved c =
    let longer = c.in-Some.ensures in
    record {
      parts = longer_parts c.args.bytes.now c.loop-rest.prefix c.loop-rest.rest.now c.in-Some.longer.0 c.in-Some.longer.1.now
          c.loop-rest.invariant.parts longer;
      within = omega (arith, longer.more, c.depth.ensures.length, c.from.ensures, c.loop-rest-test.true);
    }

pub returns : goal.returns
returns c =
    indices_begin c.args.bytes.now c.args.depth c.loop-rest.prefix c.loop-rest.rest.now c.loop-rest.invariant.parts
    (omega (arith, c.depth.ensures.length, c.from.ensures, c.loop-rest-test.false, c.loop-rest.invariant.within))
    (omega (arith, c.depth.ensures.length, c.depth.ensures.bound)) c.depth.ensures.indices
