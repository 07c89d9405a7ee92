use Rattle.std.proofs.Common.{refl, rules}
use Rattle.causal_join.proofs.causal.Causal.from_parts.Goals as goal

-- src/causal.rt
pub returns-clause-pair : goal.returns-clause-pair
returns-clause-pair g c = refl

pub returns-clause-outside : goal.returns-clause-outside
returns-clause-outside g c = search (rules)

pub invariant_of-result : goal.invariant_of-result
invariant_of-result g c = search (rules)
