use Rattle.std.proofs.Common.{◌≡◌, sum}
use Rattle.cell_tests.proofs.cells.beside.a_held_view_keeps_its_root_and_the_publish_ends_once_it_left.Given as goal

-- the book that was just opened, whose roots are sums
abbrev pub ghosts-held : goal.ghosts-held
ghosts-held g a = record { book = a.opened.0; stands = λ root events. root ≡ sum events }
