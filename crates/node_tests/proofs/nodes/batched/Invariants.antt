use Rattle.replica_model.specs.Replica.{fresh}
use Rattle.node_tests.proofs.nodes.batched.Given as goal

-- the books that were just opened, and what each node begins with
abbrev pub ghosts-batched_at_this_node : goal.ghosts-batched_at_this_node
ghosts-batched_at_this_node g a = record { book = a.opened.0; first = fresh 1 }
