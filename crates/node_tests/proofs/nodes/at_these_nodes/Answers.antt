use denote.Exit.{no}
use denote.Param.{param, copied}
use denote.Param.Send.{param_send, arg_send}
use Rattle.shared_object.proofs.gate.NoGate.TheSendSync as NoGates
use Rattle.shared_object.specs.contracts.gate.NoGate as NoGate
use Rattle.node_threads.proofs.Crossing.{client_send}
use Rattle.node_tests.proofs.nodes.at_these_nodes.Goals as goal

-- a client of the first node
pub with_this_node-peer_last-requires-send-C : goal.with_this_node-peer_last-requires-send-C
with_this_node-peer_last-requires-send-C g c κs within =
    param_send _ _ (arg_send _ no _ (client_send (param 0 g.row.K) g.K.Naming NoGate.the_row (copied 5 g.row.R)
    NoGates.the_send NoGates.the_sync c.type_bounds.send-R))
