-- What a call of a replica answers, in the words of the model. Of this project.
use Rattle.replica_core.specs.declared.outcome.Outcome.{Outcome}
use Rattle.replica_core.specs.declared.outcome.Outcome.TheVariants as told
use Rattle.replica_model.specs.Delivery as model

abbrev pub outcome_of : Outcome → model.Outcome
outcome_of told.Joined = model.Joined
outcome_of told.Sent = model.Sent
outcome_of told.Done = model.Done
outcome_of told.Ignored = model.Ignored
outcome_of told.Mismatch = model.Mismatch
outcome_of told.Gone = model.Ended
