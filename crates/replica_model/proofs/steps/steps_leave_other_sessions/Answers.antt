use Rattle.replica_model.proofs.Staying.{sessions_stay, snapshots_stay, oldest_are_dropped}
use Rattle.replica_model.proofs.steps.steps_leave_other_sessions.Goals as goal

pub returns-clause-sessions : goal.returns-clause-sessions
returns-clause-sessions c = sessions_stay

pub returns-clause-snapshots : goal.returns-clause-snapshots
returns-clause-snapshots c = snapshots_stay

pub returns-clause-dropped : goal.returns-clause-dropped
returns-clause-dropped c = oldest_are_dropped
