use Rattle.std.proofs.Common.{◌≡◌, ◌∷◌, [], ap, refl, subst, sym, ◌∙◌}
use Rattle.wire_form.specs.Message.{version_of}
use Rattle.wire_form.specs.Parts.{context, IsContext}
use Rattle.wire_form.specs.Store.{is_plain_form, store, IsStore}
use Rattle.wire_form.specs.Writing.{Appends}
use Rattle.wire_form.proofs.Deltas.{delta_written}
use Rattle.wire_form.proofs.encoding.encode_delta.Goals as goal
use Rattle.wire_form.proofs.encoding.encode_delta.Goals.{then-plain, else-plain}

-- src/encoding.rt
pub returns-clause-ok : goal.returns-clause-ok
returns-clause-ok g c =
    let plain = c.is_plain_store-plain.result in
    let head = c.extend_from_slice.new.self.items in
    let mid = c.write_context.new.out.items in
    let bytes = c.write_store.new.out.items in
    let pushed = c.in_ok-extend_from_slice.ensures.items in
    let is : head ≡ version_of plain ∷ 1 ∷ [] = elim c.if-plain.branch [
      | then-plain w ↦ pushed ∙ rw (c.in_ok-out.ensures.items, w.version-is, w.if-plain.true) refl
      | else-plain w ↦ pushed ∙ rw (c.in_ok-out.ensures.items, w.version-is, w.if-plain.false) refl
    ] in
    delta_written plain head mid bytes c.args.delta.now is
    (subst (Appends context IsContext head mid) c.context.ensures.value c.in_ok-write_context.ensures.ok)
    (subst (Appends (store plain) IsStore mid bytes) c.store-store.ensures.value c.in_ok-write_store.ensures.ok)
    c.store-store.ensures.inside
    (sym (c.is_plain_store-plain.ensures ∙ ap is_plain_form c.store-store.ensures.value))
