use Rattle.replica_model.proofs.OpeningsAlone.{one_ask_alone, one_opening_alone}
use Rattle.replica_model.proofs.replica_alone.a_session_of_a_replica_alone_has_one_opening.Goals as goal

pub returns-clause-ask : goal.returns-clause-ask
returns-clause-ask c = one_ask_alone

pub returns-clause-opening : goal.returns-clause-opening
returns-clause-opening c = one_opening_alone
