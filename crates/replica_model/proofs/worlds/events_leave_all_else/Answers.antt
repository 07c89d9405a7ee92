use Rattle.replica_model.proofs.Absent.{absent_saw_nothing}
use Rattle.replica_model.proofs.Leaving.{leaves}
use Rattle.replica_model.proofs.worlds.events_leave_all_else.Goals as goal

pub returns-clause-leave : goal.returns-clause-leave
returns-clause-leave c = leaves

pub returns-clause-absent : goal.returns-clause-absent
returns-clause-absent c = absent_saw_nothing
