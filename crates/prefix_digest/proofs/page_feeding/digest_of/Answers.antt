use Rattle.std.proofs.Common.{◌∷◌}
use Rattle.std.specs.List.{flat_map}
use Rattle.wire_form.specs.Page.{entry, child}
use Rattle.prefix_digest.proofs.page_feeding.digest_of.Goals as goal
use Rattle.prefix_digest.proofs.page_feeding.digest_of.Goals.{in-OneKey, in-Keys, in-Branch}

-- src/page_feeding.rt
pub returns : goal.returns
returns g c =
    elim c.match-told.branch [
      | in-OneKey w ↦
          (rw w.in-OneKey.is
          (c.finalize.ensures (0 ∷ entry (w.in-OneKey.key, w.in-OneKey.fields))
          (rw w.hasher-is (w.feed_named_entry.ensures _ (w.update.ensures _ c.new-hasher.ensures)))))
      | in-Keys w ↦
          (rw (w.in-Keys.is, ← w.deref.ensures.value)
          (c.finalize.ensures (1 ∷ flat_map entry w.deref.result.now)
          (rw w.hasher-is (w.feed_entries.ensures _ (w.update-in-Keys.ensures _ c.new-hasher.ensures)))))
      | in-Branch w ↦
          (rw (w.in-Branch.is, ← w.deref-in-Branch.ensures.value)
          (c.finalize.ensures (2 ∷ flat_map child w.deref-in-Branch.result.now)
          (rw w.hasher-is (w.feed_children.ensures _ (w.update-in-Branch.ensures _ c.new-hasher.ensures)))))
    ]
