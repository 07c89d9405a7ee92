use Rattle.replica_model.specs.Replica.{fresh}
use Rattle.node_tests.proofs.nodes.timed.Given as goal

-- the book that was just opened, of node 1
abbrev pub ghosts-timed_at_this_node : goal.ghosts-timed_at_this_node
ghosts-timed_at_this_node g a = record { book = a.opened.0; first = fresh 1 }
