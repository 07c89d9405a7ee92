use Rattle.std.proofs.Common.{◌≡◌, sum}
use Rattle.cell_tests.proofs.cells.each_view_enters_the_root_that_was_published_last.Given as goal

-- the book that was just opened, whose roots are sums
abbrev pub ghosts-publish_twice : goal.ghosts-publish_twice
ghosts-publish_twice g a = record { book = a.opened.0; stands = λ root events. root ≡ sum events }
