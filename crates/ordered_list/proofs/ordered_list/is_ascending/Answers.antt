use Rattle.std.proofs.Common.{◌≡◌, Bool, true, false, refl}
use Rattle.std.specs.Prelude.{IsTrue}
use Rattle.std.specs.Ordering.{is_lt}
use Rattle.std.specs.Cmp.{IsTotalOrder}
use Rattle.std.specs.List.{IsAllAdjacentAnswer}
use Rattle.std.specs.declared.cmp.Ordering.{Ordering}
use Rattle.std.proofs.Common.{List, rules, of_calls}
use Rattle.std.proofs.lemmas.Fn.{always_returns_same}
use Rattle.ordered_list.proofs.Places.{Ascends, ascends_from_test, test_from_ascends}
use Rattle.ordered_list.proofs.ordered_list.is_ascending.Goals as goal

answer : {K V : Type 0} (cmp : K → K → Ordering) → IsTotalOrder cmp → (es : List (K × V)) (r : Bool)
    → IsAllAdjacentAnswer (λ x y b. b ≡ is_lt (cmp x.0 y.0)) es r
    → (IsTrue r → Ascends cmp es) × (Ascends cmp es → IsTrue r)
answer cmp total es true h = (λ _. ascends_from_test cmp total es h, λ _. refl)
answer cmp total es false h = (λ t. absurd (cc t), λ s. absurd (test_from_ascends cmp total es h s))

pub returns : goal.returns
returns g c =
    answer g.K.Ord.cmp g.met.K.Ord.total c.args.entries.now c.is_sorted_by.result
    (c.is_sorted_by.ensures.cases (λ x y. is_lt (g.K.Ord.cmp x.0 y.0)) (always_returns_same _ _ _ (λ a r f k. search (rules, of_calls))))
