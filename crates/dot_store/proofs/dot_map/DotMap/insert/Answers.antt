use Rattle.dot_store.specs.Store.{HasNothing}
use Rattle.dot_store.specs.Stores.{at_stores}
use Rattle.std.proofs.Common.{sym, ◌∙◌}
use Rattle.std.specs.BTreeMap.{is_at}
use Rattle.dot_store.proofs.Stores.{each_after_put, each_remove}
use Rattle.dot_store.proofs.dot_map.DotMap.insert.Goals as goal

pub invariant_of-self : goal.invariant_of-self
unfolding at_stores
invariant_of-self g c =
    let test = is_at (g.K.Ord.cmp c.args.key) in
    let es = c.self.inside.stores in
    rw c.remove.ensures.entries (
      each_remove (λ s. HasNothing (g.S.DotStore.at s) → ⊥) test es c.self.invariant.0,
      each_remove g.S.DotStore.canonical test es c.self.invariant.1,
    )

pub invariant_of-self-2 : goal.invariant_of-self-2
unfolding at_stores
invariant_of-self-2 g c =
    let cmp = g.K.Ord.cmp in
    let es = c.self.inside.stores in
    let fs = c.insert.new.self in (
      each_after_put (λ s. HasNothing (g.S.DotStore.at s) → ⊥) cmp c.insert.result es fs c.args.key c.args.store c.self.invariant.0
          (λ h. absurd (cc (sym c.if-is_empty.false ∙ c.is_empty-is_empty.ensures.nothing.1 h))) c.insert.ensures.ok c.insert.ensures.unchanged,
      each_after_put g.S.DotStore.canonical cmp c.insert.result es fs c.args.key c.args.store c.self.invariant.1 c.is_empty-is_empty.ensures.canonical
          c.insert.ensures.ok c.insert.ensures.unchanged,
    )

pub returns-clause-nothing : goal.returns-clause-nothing
returns-clause-nothing g c = λ h. absurd (cc (sym c.if-is_empty.false ∙ c.is_empty-is_empty.ensures.nothing.1 h))
