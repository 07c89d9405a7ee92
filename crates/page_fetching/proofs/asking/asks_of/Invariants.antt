use Rattle.std.proofs.Common.{◌≡◌, ◌++◌, ◌∷◌, [], drop}
use Rattle.std.specs.Prelude.{map}
use Rattle.std.specs.List.{AllByRecursion}
use Rattle.page_fetching.specs.Taking.{IsChildOf}
use Rattle.page_fetching.proofs.asking.asks_of.Given as goal

abbrev pub invariant-loop-child : goal.invariant-loop-child
invariant-loop-child g l =
    (map (λ c. l.prefix ++ c.0 ∷ []) l.children ≡ l.asks.items ++ map (λ c. l.prefix ++ c.0 ∷ []) (drop l.child-index l.children))
    × AllByRecursion (λ c. IsChildOf l.prefix c.0) (drop l.child-index l.children)
