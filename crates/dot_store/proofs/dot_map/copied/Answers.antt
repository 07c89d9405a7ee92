use Rattle.std.proofs.Common.{cond, Some, take, sym, ap, ◌∙◌, subst}
use Rattle.std.specs.Ordering.{is_eq}
use Rattle.ordered_list.specs.Places.{value_at}
use Rattle.dot_store.specs.Store.{HasNothing}
use Rattle.dot_store.specs.Stores.{at_stores, held_by, NoKeyIsEmpty}
use Rattle.ordered_list.proofs.Places.{take_insert, take_all, lookup-insert_entry}
use Rattle.dot_store.proofs.Stores.{each_put, no_empty_copy, copied_by}
use Rattle.dot_store.proofs.dot_map.copied.Goals as goal

pub prove-unreachable-requires : goal.prove-unreachable-requires
unfolding at_stores
prove-unreachable-requires g c =
    let at = g.S.DotStore.at in
    let es = c.entries-entries.result.now in
    let filled : NoKeyIsEmpty at es = subst (NoKeyIsEmpty at) (sym c.entries-entries.ensures.all) c.requires in
    let there = no_empty_copy at es c.loop-key.key-index c.loop-key-item.result c.in_ok-copy.copy filled c.loop-key-test.true c.loop-key-item.is
    c.in_ok-copy.ensures.ok in
    there (c.is_empty.ensures.nothing.0 c.if-prove.true)

pub loop-key-preserved : goal.loop-key-preserved
unfolding at_stores
loop-key-preserved g c =
    let cmp = g.K.Ord.cmp in
    let at = g.S.DotStore.at in
    let es = c.entries-entries.result.now in
    let i = c.loop-key.key-index in
    let e = c.loop-key-item.result in
    let key = c.in_ok-copy-2.field-0 in
    let copy = c.in_ok-copy.copy in
    let same = c.in_ok-copy.ensures.ok in
    let filled : NoKeyIsEmpty at es = subst (NoKeyIsEmpty at) (sym c.entries-entries.ensures.all) c.requires in
    let there = no_empty_copy at es i e copy filled c.loop-key-test.true c.loop-key-item.is same in
    let taken = take_insert cmp g.met.K.Ord.total es i e c.entries-entries.ensures.ordered c.loop-key-test.true c.loop-key-item.is in (
      λ q place d.
          ap (λ o. held_by at o place d) (c.in_ok-insert.ensures.updates q
          ∙ ap (λ k. cond (is_eq (cmp k q)) (Some copy) (value_at cmp c.loop-key.copies q)) c.in_ok-copy-2.ensures.ok)
          ∙ copied_by at (is_eq (cmp e.0 q)) e.1 copy (value_at cmp c.loop-key.copies q) (value_at cmp (take i es) q) same (c.loop-key.invariant.0 q) place d
          ∙ sym (ap (λ o. held_by at o place d) (ap (λ l. value_at cmp l q) taken ∙ lookup-insert_entry cmp g.met.K.Ord.total (take i es) e.0 q e.1)),
      each_put (λ s. HasNothing (at s) → ⊥) cmp c.loop-key.copies c.insert.new.self key copy c.loop-key.invariant.1 there c.in_ok-insert.ensures.ok,
      each_put g.S.DotStore.canonical cmp c.loop-key.copies c.insert.new.self key copy c.loop-key.invariant.2 c.is_empty.ensures.canonical
          c.in_ok-insert.ensures.ok,
    )

pub returns-clause-ok : goal.returns-clause-ok
unfolding at_stores
returns-clause-ok g c = λ q place d.
    c.loop-key.invariant.0 q place d
    ∙ ap (λ l. held_by g.S.DotStore.at (value_at g.K.Ord.cmp l q) place d) (take_all c.entries-entries.result.now c.loop-key.key-index c.loop-key-test.false
    ∙ c.entries-entries.ensures.all)
