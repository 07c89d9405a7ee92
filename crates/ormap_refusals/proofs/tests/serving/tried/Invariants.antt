use Rattle.replica_core.specs.Meaning.{meaning}
use Rattle.ormap_refusals.proofs.tests.serving.tried.Given as goal

-- the book that was just opened, and what the node begins with
abbrev pub ghosts-tried_at_this_node : goal.ghosts-tried_at_this_node
ghosts-tried_at_this_node g a = record { book = a.book.0; first = meaning a.here }
