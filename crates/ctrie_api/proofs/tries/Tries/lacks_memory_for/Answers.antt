use Rattle.ctrie_api.proofs.Runs.{refused_done}
use Rattle.ctrie_api.proofs.tries.Tries.lacks_memory_for.Goals as goal

pub returns-in-Err-ReadOnly-clause-done : goal.returns-in-Err-ReadOnly-clause-done
returns-in-Err-ReadOnly-clause-done g c = λ _. refused_done _ _ _ _ c.in-Err-ReadOnly.field-0-is c.in-Err-ReadOnly.ensures.same
    c.in-Err-ReadOnly.ensures.read_only
