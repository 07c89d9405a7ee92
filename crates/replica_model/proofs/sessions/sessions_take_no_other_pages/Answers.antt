use Rattle.replica_model.proofs.Refusing.{others_mismatch, elsewhere_ignored}
use Rattle.replica_model.proofs.sessions.sessions_take_no_other_pages.Goals as goal

pub returns-clause-others : goal.returns-clause-others
returns-clause-others c = others_mismatch

pub returns-clause-elsewhere : goal.returns-clause-elsewhere
returns-clause-elsewhere c = elsewhere_ignored
