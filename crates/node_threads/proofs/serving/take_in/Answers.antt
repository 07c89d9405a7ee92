use Rattle.std.proofs.lemmas.Result.{IfOk-weaker}
use Rattle.replica_core.proofs.Meant.{on_err}
use Rattle.node_threads.proofs.Inboxes.{not_called}
use Rattle.node_threads.proofs.serving.take_in.Goals as goal

pub returns-clause-taken : goal.returns-clause-taken
returns-clause-taken g c = IfOk-weaker c.deliver-told.result _ _
    (λ told taken. (c.in_ok-message.message, taken.0, c.in_ok-message.ensures.ok, taken.1, taken.2)) c.deliver-told.ensures.taken

pub returns-in_err-message-clause-not_made : goal.returns-in_err-message-clause-not_made
returns-in_err-message-clause-not_made g c = on_err c.from_residual.result (not_called c.args.client.now)
