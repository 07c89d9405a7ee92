use Rattle.replica_core.specs.Meaning.{meaning}
use Rattle.ormap_refusals.proofs.tests.new_nodes.make_of.Given as goal

-- the book that was just opened, and what the node begins with
abbrev pub ghosts-made_of : goal.ghosts-made_of
ghosts-made_of g a = record { book = a.book.0; first = meaning a.here }
