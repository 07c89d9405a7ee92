use Rattle.std.proofs.Common.{◌≡◌, Bool, true, false, refl}
use Rattle.std.specs.Prelude.{IsTrue}
use Rattle.std.specs.Ordering.{is_lt}
use Rattle.std.specs.Cmp.{IsTotalOrder}
use Rattle.std.specs.List.{IsAllAdjacentAnswer}
use Rattle.std.specs.List.Sorted.{IsStrictlySortedBy}
use Rattle.std.specs.declared.cmp.Ordering.{Ordering}
use Rattle.std.proofs.Common.{List, rules, of_calls}
use Rattle.std.proofs.lemmas.Fn.{always_returns_same}
use Rattle.ordered_list.proofs.Items.{items_ascend_from_test, test_from_items_ascend}
use Rattle.ordered_list.proofs.ordered_set.is_ascending.Goals as goal

answer : {T : Type 0} (cmp : T → T → Ordering) → IsTotalOrder cmp → (xs : List T) (r : Bool) → IsAllAdjacentAnswer (λ x y b. b ≡ is_lt (cmp x y)) xs r
    → (IsTrue r → IsStrictlySortedBy cmp xs) × (IsStrictlySortedBy cmp xs → IsTrue r)
answer cmp total xs true h = (λ _. items_ascend_from_test cmp total xs h, λ _. refl)
answer cmp total xs false h = (λ t. absurd (cc t), λ s. absurd (test_from_items_ascend cmp total xs h s))

pub returns : goal.returns
returns g c =
    answer g.T.Ord.cmp g.met.T.Ord.total c.args.items.now c.is_sorted_by.result
    (c.is_sorted_by.ensures.cases (λ x y. is_lt (g.T.Ord.cmp x y)) (always_returns_same _ _ _ (λ a r f k. search (rules, of_calls))))
