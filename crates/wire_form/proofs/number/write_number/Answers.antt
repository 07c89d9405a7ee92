use Rattle.std.proofs.Common.{◌++◌, ap, ◌∙◌}
use Rattle.wire_form.specs.Spelling.{number}
use Rattle.wire_form.proofs.number.write_number.Goals as goal

pub returns-clause-ok : goal.returns-clause-ok
unfolding number
returns-clause-ok g c = record {
  fits = c.ranges.value.fits;
  parts = c.in_ok-extend_from_slice.ensures.items ∙ ap (λ bytes. c.args.out.now.items ++ bytes) c.to_be_bytes.ensures;
}
