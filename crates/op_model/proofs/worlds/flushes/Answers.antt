use Rattle.std.proofs.Common.{ap, ◌∙◌, ◌++◌}
use Rattle.std.proofs.lemmas.List.{append-nil}
use Rattle.op_model.specs.World.{Flush, after, group_messages}
use Rattle.op_model.proofs.Events.{after_flush, group_empty, messages_after}
use Rattle.op_model.proofs.Pairs.{sent-some}
use Rattle.op_model.proofs.worlds.flushes.Goals as goal

pub returns-clause-pairs : goal.returns-clause-pairs
returns-clause-pairs c = λ events name p g e means. after_flush events name p g means e

pub returns-clause-empty : goal.returns-clause-empty
returns-clause-empty c = λ events name p g means. group_empty events name p g means

pub returns-clause-message : goal.returns-clause-message
returns-clause-message c = λ events name some. messages_after events (Flush name)
    ∙ ap (λ more. (after events).messages ++ more) (sent-some ((after events).outgoing name) some)

pub returns-clause-no_message : goal.returns-clause-no_message
returns-clause-no_message c = λ events name none. messages_after events (Flush name) ∙ ap (λ S. (after events).messages ++ group_messages S) none
    ∙ append-nil (after events).messages
