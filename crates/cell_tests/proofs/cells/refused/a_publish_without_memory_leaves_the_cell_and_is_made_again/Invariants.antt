use Rattle.std.proofs.Common.{◌≡◌, sum}
use Rattle.cell_tests.proofs.cells.refused.a_publish_without_memory_leaves_the_cell_and_is_made_again.Given as goal

-- the book that was just opened, whose roots are sums
abbrev pub ghosts-publish_in : goal.ghosts-publish_in
ghosts-publish_in g a = record { book = a.opened.0; stands = λ root events. root ≡ sum events }
