use Rattle.std.proofs.Common.{◌∙◌, subst}
use Rattle.std.specs.List.Sorted.{IsStrictlySortedBy}
use Rattle.std.specs.Map.{keys_of}
use Rattle.causal_context.specs.Dots.{dot_cmp}
use Rattle.dot_store.specs.Stores.{at_values}
use Rattle.dot_store.proofs.Values.{nothing_from_test, test_from_nothing}
use Rattle.dot_store.proofs.dot_fun.DotFunDotStore.is_empty.Goals as goal

pub returns-clause-nothing : goal.returns-clause-nothing
unfolding at_values
returns-clause-nothing g c =
    rw (← c.self.view_is, ← c.entries.ensures.all)
    (nothing_from_test c.entries.result.now c.is_empty.result c.is_empty.ensures, test_from_nothing c.entries.result.now c.is_empty.result c.is_empty.ensures)

pub returns-clause-canonical : goal.returns-clause-canonical
returns-clause-canonical g c = subst (λ es. IsStrictlySortedBy dot_cmp (keys_of es)) (c.entries.ensures.all ∙ c.self.view_is) c.entries.ensures.ordered
