use Rattle.replica_model.specs.Replica.{fresh}
use Rattle.node_tests.proofs.nodes.at_two_nodes.Given as goal

-- the books that were just opened, of node 1 and of node 2
abbrev pub ghosts-at_these_nodes-K-Naming : goal.ghosts-at_these_nodes-K-Naming
ghosts-at_these_nodes-K-Naming g a = record { book = a.first.0; first = fresh 1 }

abbrev pub ghosts-at_these_nodes-L-Naming : goal.ghosts-at_these_nodes-L-Naming
ghosts-at_these_nodes-L-Naming g a = record { book = a.second.0; first = fresh 2 }
