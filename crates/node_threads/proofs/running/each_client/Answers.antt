use denote.Exit.{no}
use denote.Param.{param}
use denote.Param.Send.{param_send, arg_send}
use Rattle.node_threads.proofs.Crossing.{client_send}
use Rattle.node_threads.proofs.running.each_client.Goals as goal

-- a client
pub for_each_mut-requires-send-T : goal.for_each_mut-requires-send-T
for_each_mut-requires-send-T g c κs within =
    param_send _ _ (arg_send _ no _ (client_send (param 0 g.row.K) g.K.Naming (param 1 g.row.G) (param 2 g.row.W)
    c.type_bounds.send-G c.type_bounds.sync-G c.type_bounds.send-W))
