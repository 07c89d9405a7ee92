use Rattle.std.proofs.Common.{◌≡◌, ◌++◌}
use Rattle.page_fetching.proofs.prefixes.listed.Given as goal

abbrev pub invariant-loop-prefix : goal.invariant-loop-prefix
invariant-loop-prefix g l = l.list.items ++ l.prefix-iterator ≡ l.prefixes.keys
