use denote.Exit.{no}
use denote.Param.{param, copied}
use denote.Param.Send.{IsSend, IsSync, param_send, arg_send, sendable}
use Rattle.std.proofs.Crossing.{crosses}
use Rattle.node_threads.proofs.Crossing.{client_send}
use Rattle.node_tests.specs.contracts.tests.beside.Holding as Holding
use Rattle.node_tests.proofs.nodes.call_beside.Goals as goal

gate_send : IsSend Holding.the_row
gate_send = search (crosses, sendable) depth 20

gate_sync : IsSync Holding.the_row
gate_sync = search (crosses, sendable) depth 20

-- a client
pub both_put_often-requires-send-C : goal.both_put_often-requires-send-C
both_put_often-requires-send-C g c κs within =
    param_send _ _ (arg_send _ no _ (client_send (param 0 g.row.K) g.K.Naming Holding.the_row (copied 1 g.row.R) gate_send gate_sync c.type_bounds.send-R))

pub put_while_looked-requires-send-C : goal.put_while_looked-requires-send-C
put_while_looked-requires-send-C g c κs within =
    param_send _ _ (arg_send _ no _ (client_send (param 0 g.row.K) g.K.Naming Holding.the_row (copied 1 g.row.R) gate_send gate_sync c.type_bounds.send-R))
