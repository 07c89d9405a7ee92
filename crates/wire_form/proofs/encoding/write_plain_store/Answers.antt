use Rattle.std.proofs.Common.{ap, ◌∙◌}
use Rattle.std.proofs.lemmas.Result.{on_ok_weaker}
use Rattle.wire_form.specs.Spelling.{pair, IsPair}
use Rattle.wire_form.specs.Parts.{text, IsText}
use Rattle.wire_form.specs.Store.{is_plain_form, sole, AreSole}
use Rattle.wire_form.proofs.Writes.{counted_appends, plain_store_appended}
use Rattle.wire_form.proofs.encoding.write_plain_store.Goals as goal

pub write_plain_entries-requires : goal.write_plain_entries-requires
write_plain_entries-requires g c = ap is_plain_form c.entries-entries.ensures.rest ∙ c.requires

pub returns-clause-ok : goal.returns-clause-ok
returns-clause-ok g c =
    let old = c.args.out.now.items in
    let new = c.write_plain_entries.new.out.items in
    let es = c.entries-entries.result.now in
    on_ok_weaker c.write_plain_entries.result (λ p. plain_store_appended old new c.args.store.now es
    (counted_appends (pair text sole) (IsPair IsText AreSole) old c.append_to.new.out.items new es c.in_ok-append_to.ensures.ok p)
    c.entries-entries.ensures.rest c.entries-entries.ensures.ordered c.entries-entries.ensures.filled)
    c.write_plain_entries.ensures.ok
