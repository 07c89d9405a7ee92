use Rattle.replica_model.proofs.Answers.{calls_are_told}
use Rattle.replica_model.proofs.headline.calls_are_told_by_what_was_seen.Goals as goal

pub returns : goal.returns
returns c = calls_are_told
