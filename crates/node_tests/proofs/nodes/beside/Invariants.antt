use Rattle.replica_model.specs.Replica.{fresh}
use Rattle.node_tests.proofs.nodes.beside.Given as goal

-- the book that was just opened, of node 1
abbrev pub ghosts-beside_at_this_node : goal.ghosts-beside_at_this_node
ghosts-beside_at_this_node g a = record { book = a.opened.0; first = fresh 1 }
