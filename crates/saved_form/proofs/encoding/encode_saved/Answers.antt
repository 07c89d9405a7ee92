use Rattle.std.proofs.Common.{◌≡◌, ◌++◌, length, ap, ◌∙◌, arith}
use Rattle.wire_form.specs.Spelling.{number}
use Rattle.saved_form.proofs.Saves.{save_written}
use Rattle.saved_form.proofs.encoding.encode_saved.Goals as goal

pub returns-clause-ok : goal.returns-clause-ok
returns-clause-ok g c =
    let long : c.len.result ≡ length c.in-Ok.live.items = omega (arith, ap length c.as_slice.ensures.value, c.as_slice.ensures.len, c.len.ensures) in
    save_written (record { name = c.args.saved.name; opened = c.args.saved.opened; live = c.args.saved.live; group = c.args.saved.group })
    c.in-Ok.live.items c.in_ok-group.group.items c.in_ok-out.out.items c.write_number.new.out.items c.write_number-2.new.out.items
    c.write_number-3.new.out.items c.extend_from_slice.new.self.items c.extend_from_slice-2.new.self.items
    (omega (arith, c.number.ensures.from_one, c.number.ensures.value), omega (arith, c.write_number.ensures.fits, c.number.ensures.value))
    c.write_number-2.ensures.fits (omega (arith, c.write_number-3.ensures.fits, long))
    c.in-Ok.ensures.ok c.in_ok-group.ensures.ok c.in_ok-out.ensures.items
    (c.in_ok-write_number.ensures.ok ∙ ap (λ n. c.in_ok-out.out.items ++ number n) c.number.ensures.value)
    c.in_ok-write_number-2.ensures.ok
    (c.in_ok-write_number-3.ensures.ok ∙ ap (λ n. c.write_number-2.new.out.items ++ number n) long)
    (c.in_ok-extend_from_slice.ensures.items ∙ ap (λ x. c.write_number-3.new.out.items ++ x) c.as_slice.ensures.value)
    (c.in_ok-extend_from_slice-2.ensures.items ∙ ap (λ x. c.extend_from_slice.new.self.items ++ x) c.as_slice-2.ensures.value)
