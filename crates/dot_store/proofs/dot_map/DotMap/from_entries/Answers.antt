use Rattle.std.proofs.Common.{refl, sym, ◌∙◌, subst}
use Rattle.dot_store.specs.Stores.{at_stores, NoKeyIsEmpty, AreCanonical}
use Rattle.dot_store.proofs.dot_map.DotMap.from_entries.Goals as goal

pub returns-then-not-are_filled-clause-canonical : goal.returns-then-not-are_filled-clause-canonical
unfolding at_stores
returns-then-not-are_filled-clause-canonical g c =
    (λ h. absurd (cc h), λ h. absurd (cc (c.if-not-are_filled.ensures.filled.1 (subst (NoKeyIsEmpty g.S.DotStore.at) (sym c.deref.ensures.value) h.1))))

pub invariant_of-result : goal.invariant_of-result
unfolding at_stores
invariant_of-result g c =
    let is = c.deref.ensures.value ∙ sym c.in_ok-stores.ensures.entries in (
      subst (NoKeyIsEmpty g.S.DotStore.at) is (c.if-not-are_filled.ensures.filled.0 refl),
      subst (AreCanonical g.S.DotStore.canonical) is (c.if-not-are_filled.ensures.canonical refl),
    )

pub returns-clause-canonical : goal.returns-clause-canonical
unfolding at_stores
returns-clause-canonical g c = (
  λ _. (
    c.in_ok-stores.ensures.ascend.0 refl,
    subst (NoKeyIsEmpty g.S.DotStore.at) c.deref.ensures.value
        (c.if-not-are_filled.ensures.filled.0 refl),
  ),
  λ _. refl,
)
