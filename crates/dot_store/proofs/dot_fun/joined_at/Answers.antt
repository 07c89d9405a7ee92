use Rattle.std.proofs.Common.{Some, ap, rules, ◌∙◌}
use Rattle.dot_store.proofs.dot_fun.joined_at.Goals as goal
use Rattle.dot_store.proofs.dot_fun.joined_at.Goals.{in-Some-Some, in-Some-None, in-None-Some}

-- src/dot_fun.rt
pub returns-clause-ok : goal.returns-clause-ok
returns-clause-ok g c = elim c.match-mine.branch [
  | in-Some-Some w ↦ rw (w.in-Some-Some.is-0, w.in-Some-Some.is-1)
      (ap Some (c.in_ok-copy.ensures.ok ∙ ap (λ kept. kept.now) w.kept-is ∙ w.greater_of-kept.ensures))
  | in-Some-None w ↦ search (rules, c.in_ok-copy.ensures.ok)
  | in-None-Some w ↦ rw (w.in-None-Some.is-0, w.in-None-Some.is-1, ← w.if-not-contains-2.ensures)
      (ap Some (c.in_ok-copy.ensures.ok ∙ ap (λ kept. kept.now) w.kept-is))
]
