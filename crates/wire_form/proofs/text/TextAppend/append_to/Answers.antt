use Rattle.std.proofs.Common.{◌++◌, ap, ◌∙◌, subst}
use Rattle.wire_form.specs.Parts.{text, IsText}
use Rattle.wire_form.specs.Writing.{Appends}
use Rattle.wire_form.proofs.Writes.{text_appends}
use Rattle.wire_form.proofs.text.TextAppend.append_to.Goals as goal

pub returns-clause-ok : goal.returns-clause-ok
returns-clause-ok g c =
    let old = c.args.out.now.items in
    let new = c.extend_from_slice-2.new.self.items in
    subst (Appends text IsText old new) c.bytes-bytes.ensures.value
    (text_appends old c.extend_from_slice.new.self.items new c.bytes-bytes.result.now c.bytes-bytes.ensures.short
    (c.in_ok-extend_from_slice.ensures.items ∙ ap (λ bytes. old ++ bytes) c.to_be_bytes.ensures) c.in_ok-extend_from_slice-2.ensures.items)
