use Rattle.std.proofs.Common.{◌≡◌, nat_eq, drop}
use Rattle.std.specs.List.{list_any}
use Rattle.page_fetching.proofs.clearing.lists.Given as goal

abbrev pub invariant-loop-child : goal.invariant-loop-child
invariant-loop-child l = list_any (λ c. nat_eq c.0 l.index) l.children ≡ list_any (λ c. nat_eq c.0 l.index) (drop l.child-index l.children)
