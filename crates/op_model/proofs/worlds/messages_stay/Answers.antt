use Rattle.op_model.proofs.Pairs.{message-kept, message-added}
use Rattle.op_model.proofs.worlds.messages_stay.Goals as goal

pub returns-clause-kept : goal.returns-clause-kept
returns-clause-kept c = message-kept

pub returns-clause-added : goal.returns-clause-added
returns-clause-added c = message-added
