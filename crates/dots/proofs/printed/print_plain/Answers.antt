use Rattle.dots.proofs.Plain.{plain_utf8}
use Rattle.dots.proofs.printed.print_plain.Goals as goal

-- src/printed.rt
pub unreachable-requires : goal.unreachable-requires
unreachable-requires g c = absurd (c.in-Err.ensures.cases.0 (plain_utf8 c.args.bytes.now c.requires))
