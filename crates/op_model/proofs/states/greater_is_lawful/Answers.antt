use Rattle.op_model.proofs.Greater.{greater-comm, greater-assoc, greater-idem}
use Rattle.op_model.proofs.states.greater_is_lawful.Goals as goal

pub returns-clause-commutative : goal.returns-clause-commutative
returns-clause-commutative c = greater-comm

pub returns-clause-associative : goal.returns-clause-associative
returns-clause-associative c = greater-assoc

pub returns-clause-idempotent : goal.returns-clause-idempotent
returns-clause-idempotent c = greater-idem
