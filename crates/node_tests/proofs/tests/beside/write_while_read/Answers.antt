use denote.Param.{param, copied}
use denote.Param.Send.{mut_send, shr_send}
use Rattle.std.proofs.Crossing as std
use Rattle.node_threads.proofs.Crossing.{client_send}
use denote.Param.Send.{IsSend, IsSync, sendable}
use Rattle.std.proofs.Crossing.{crosses}
use Rattle.node_tests.specs.contracts.tests.beside.Holding as Holding
use Rattle.node_tests.proofs.Handing.{of_three}
use Rattle.node_tests.proofs.tests.beside.write_while_read.Goals as goal

gate_send : IsSend Holding.the_row
gate_send = search (crosses, sendable) depth 20

gate_sync : IsSync Holding.the_row
gate_sync = search (crosses, sendable) depth 20

-- the handle, the allocator and a client
pub join-put_later-requires-send-F : goal.join-put_later-requires-send-F
join-put_later-requires-send-F g c κs within = of_three _ _ _ _ _ _ (shr_send _ _ _ c.type_bounds.sync-R) (shr_send _ _ _ std.sync)
    (mut_send _ _ _ (client_send (param 0 g.row.K) g.K.Naming Holding.the_row (copied 1 g.row.R) gate_send gate_sync c.type_bounds.send-R))
