use Rattle.std.proofs.Common.{subst}
use Rattle.std.proofs.lemmas.Result.{on_ok_weaker}
use Rattle.wire_form.specs.Spelling.{counted, AreCounted}
use Rattle.wire_form.specs.Parts.{entry, IsEntry, dot_bytes, IsDot}
use Rattle.wire_form.specs.Writing.{Appends}
use Rattle.wire_form.proofs.Writes.{context_appended}
use Rattle.wire_form.proofs.encoding.write_context.Goals as goal

pub returns-clause-ok : goal.returns-clause-ok
returns-clause-ok g c =
    let old = c.args.out.now.items in
    let mid = c.append_items.new.out.items in
    let new = c.append_items-2.new.out.items in
    on_ok_weaker c.append_items-2.result (λ q. context_appended old mid new c.args.context.now
    (subst (Appends (counted entry) (AreCounted IsEntry) old mid) c.vector.ensures.rest c.in_ok-append_items.ensures.ok) c.vector.ensures.canonical
    (subst (Appends (counted dot_bytes) (AreCounted IsDot) mid new) c.cloud.ensures.rest q))
    c.append_items-2.ensures.ok
