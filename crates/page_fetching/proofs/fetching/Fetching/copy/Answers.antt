use Rattle.std.proofs.Common.{sym, subst}
use Rattle.page_fetching.specs.Taking.{ArePrefixes}
use Rattle.page_fetching.proofs.fetching.Fetching.copy.Goals as goal

pub invariant_of-result : goal.invariant_of-result
invariant_of-result g c = subst (λ waiting. ArePrefixes waiting.map) (sym c.in_ok-waiting.ensures.ok) c.self.invariant
