use Rattle.sync_model.proofs.Closings.{closing}
use Rattle.sync_model.proofs.laws.what_was_built_is_what_the_peer_had.Goals as goal

pub returns : goal.returns
returns c = closing
