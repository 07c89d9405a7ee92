use Rattle.std.proofs.Common.{◌≡◌, sum}
use Rattle.cell_tests.proofs.cells.beside.reads_beside_publishes_are_whole_and_have_all_that_was_learnt.Given as goal

-- the book that was just opened, whose roots are sums
abbrev pub ghosts-race : goal.ghosts-race
ghosts-race g a = record { book = a.opened.0; stands = λ root events. root ≡ sum events }
