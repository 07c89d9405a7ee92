use Rattle.replica_model.specs.Replica.{fresh}
use Rattle.node_tests.proofs.nodes.resumed.Given as goal

-- the book that was just opened, and what the node begins with
abbrev pub ghosts-saved_at_this_node : goal.ghosts-saved_at_this_node
ghosts-saved_at_this_node g a = record { book = a.opened.0; first = fresh 1 }
