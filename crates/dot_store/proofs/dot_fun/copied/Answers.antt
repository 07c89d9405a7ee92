use Rattle.std.proofs.Common.{sym, ap, ◌∙◌}
use Rattle.std.specs.BTreeMap.{insert_entry}
use Rattle.causal_context.specs.Dots.{dot_cmp}
use Rattle.causal_context.proofs.Dots.{dot_cmp_total}
use Rattle.ordered_list.proofs.Places.{take_insert}
use Rattle.dot_store.proofs.dot_fun.copied.Goals as goal

pub loop-dot-preserved : goal.loop-dot-preserved
loop-dot-preserved g c =
    let e = c.loop-dot-item.result in
    c.in_ok-insert.ensures.ok ∙ ap (λ v. insert_entry dot_cmp c.loop-dot.copies e.0 v) c.in_ok-copy.ensures.ok
    ∙ ap (λ es. insert_entry dot_cmp es e.0 e.1) c.loop-dot.invariant
    ∙ sym (take_insert dot_cmp dot_cmp_total c.entries-entries.result.now c.loop-dot.dot-index e c.entries-entries.ensures.ordered c.loop-dot-test.true
    c.loop-dot-item.is)
