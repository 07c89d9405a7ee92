-- A replica that has made more than is kept of it. Of this project.
use Rattle.std.specs.Prelude.{◌≡◌, []}
use Rattle.op_model.specs.Meaning.{state}
use Rattle.replica_model.specs.Replica.{Replica, makes, restarts}
use Rattle.replica_model.specs.Step.{KnowsNone}

-- What is to be sent is what was made since the last flush, and what was kept before it is all else.
pub record IsBehind (kept : Replica) (r : Replica) : Type 0 where
  pub sent : kept.group ≡ state []
  pub is : restarts r ≡ restarts (makes kept r.group)
  pub nothing : KnowsNone r.group → r.group ≡ state []
