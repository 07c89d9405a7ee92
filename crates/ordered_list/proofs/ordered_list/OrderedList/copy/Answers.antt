use Rattle.std.proofs.Common.{subst, sym, ◌∙◌}
use Rattle.std.specs.List.Sorted.{IsStrictlySortedBy}
use Rattle.std.specs.Map.{keys_of}
use Rattle.ordered_list.proofs.ordered_list.OrderedList.copy.Goals as goal

-- src/ordered_list.rt
pub returns-clause-ok : goal.returns-clause-ok
returns-clause-ok g c = c.in_ok-items.ensures.items ∙ c.deref.ensures.value ∙ c.self.view_is

pub invariant_of-result : goal.invariant_of-result
invariant_of-result g c =
    subst (λ items. IsStrictlySortedBy g.K.Ord.cmp (keys_of items)) (sym (c.in_ok-items.ensures.items ∙ c.deref.ensures.value)) c.self.invariant
