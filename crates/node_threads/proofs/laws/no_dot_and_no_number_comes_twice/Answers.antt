use Rattle.node_threads.proofs.Twice.{dots_differ, numbers_differ}
use Rattle.node_threads.proofs.laws.no_dot_and_no_number_comes_twice.Goals as goal

pub returns-clause-dots : goal.returns-clause-dots
returns-clause-dots c = dots_differ

pub returns-clause-numbers : goal.returns-clause-numbers
returns-clause-numbers c = numbers_differ
