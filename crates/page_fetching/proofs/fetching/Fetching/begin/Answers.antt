use Rattle.std.proofs.Common.{sym, subst}
use Rattle.page_fetching.specs.Taking.{ArePrefixes}
use Rattle.page_fetching.proofs.Asks.{no_prefixes, root_prefix}
use Rattle.page_fetching.proofs.fetching.Fetching.begin.Goals as goal

pub invariant_of-result : goal.invariant_of-result
invariant_of-result g c = subst ArePrefixes (sym c.in_ok-waiting.ensures.ok) (root_prefix c.args.root.now)

pub invariant_of-result-2 : goal.invariant_of-result-2
invariant_of-result-2 g c = subst ArePrefixes (sym c.no_waiting-waiting.ensures) no_prefixes
