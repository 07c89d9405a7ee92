use denote.Exit.{no}
use denote.Param.{param, copied}
use denote.Param.Send.{param_send, arg_send}
use Rattle.shared_object.proofs.gate.NoGate.TheSendSync as NoGates
use Rattle.shared_object.specs.contracts.gate.NoGate as NoGate
use Rattle.node_threads.proofs.Crossing.{client_send}
use Rattle.node_tests.proofs.nodes.with_this_node.Goals as goal

-- a client of the new node
pub call_both-requires-send-D : goal.call_both-requires-send-D
call_both-requires-send-D g c κs within =
    param_send _ _ (arg_send _ no _ (client_send (param 1 g.row.L) g.L.Naming NoGate.the_row (copied 5 g.row.R)
    NoGates.the_send NoGates.the_sync c.type_bounds.send-R))
