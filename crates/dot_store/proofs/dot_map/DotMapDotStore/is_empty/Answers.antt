use Rattle.std.proofs.Common.{sym, ap, ◌∙◌, length, subst, eq-eqb, eqb-true}
use Rattle.std.specs.List.Sorted.{IsStrictlySortedBy}
use Rattle.std.specs.Map.{keys_of}
use Rattle.dot_store.specs.Stores.{at_stores, IsCanonicalMap, NoKeyIsEmpty}
use Rattle.dot_store.proofs.Stores.{nothing_from_no_key, no_key_from_nothing, each_contained}
use Rattle.dot_store.proofs.dot_map.DotMapDotStore.is_empty.Goals as goal

pub returns-clause-nothing : goal.returns-clause-nothing
unfolding at_stores
returns-clause-nothing g c =
    let at = g.S.DotStore.at in
    let cmp = g.K.Ord.cmp in
    let es = c.entries.result.now in
    let filled = subst (NoKeyIsEmpty at) (sym c.entries.ensures.all) c.self.invariant.0 in
    rw (← c.self.view_is, ← c.entries.ensures.all) (
      λ t. nothing_from_no_key at cmp g.met.K.Ord.total es (eqb-true (length es) 0 (sym c.is_empty.ensures ∙ t)),
      λ h. c.is_empty.ensures ∙ eq-eqb (length es) 0 (no_key_from_nothing at cmp g.met.K.Ord.total es filled h),
    )

pub returns-clause-canonical : goal.returns-clause-canonical
returns-clause-canonical g c =
    subst (IsCanonicalMap g.S.DotStore.at g.K.Ord.cmp g.S.DotStore.canonical) c.self.view_is record {
      ordered = subst (IsStrictlySortedBy g.K.Ord.cmp) (ap keys_of c.entries.ensures.all) c.entries.ensures.ordered;
      filled = c.self.invariant.0;
      each = each_contained g.S.DotStore.canonical c.self.inside.stores c.self.invariant.1;
    }
