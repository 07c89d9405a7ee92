use Rattle.std.proofs.Common.{◌≡◌, sum}
use Rattle.cell_tests.proofs.cells.refused.a_cell_without_memory_is_refused_and_leaves_none_behind.Given as goal

-- the book that was just opened, whose roots are sums
abbrev pub ghosts-make_in : goal.ghosts-make_in
ghosts-make_in g a = record { book = a.opened.0; stands = λ root events. root ≡ sum events }
