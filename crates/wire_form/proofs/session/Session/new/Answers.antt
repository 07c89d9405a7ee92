use Rattle.std.proofs.Common.{refl, rules}
use Rattle.wire_form.proofs.session.Session.new.Goals as goal

-- src/session.rt
pub invariant_of-result : goal.invariant_of-result
invariant_of-result c = search (rules)

pub returns-else-number-eq0-clause-found : goal.returns-else-number-eq0-clause-found
returns-else-number-eq0-clause-found c = (λ some zero. search (rules), λ apart. refl)
