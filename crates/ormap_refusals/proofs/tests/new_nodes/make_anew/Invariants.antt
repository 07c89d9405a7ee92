use Rattle.replica_model.specs.Replica.{fresh}
use Rattle.ormap_refusals.proofs.tests.new_nodes.make_anew.Given as goal

-- the book that was just opened, and what the node begins with
abbrev pub ghosts-made_anew : goal.ghosts-made_anew
ghosts-made_anew g a = record { book = a.book.0; first = fresh a.name }
