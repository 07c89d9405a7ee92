use Rattle.root_cell.proofs.Prefixes.{prefix_self}
use Rattle.root_cell.proofs.view.View.learn.Goals as goal

pub returns-then-is_behind-clause-told : goal.returns-then-is_behind-clause-told
returns-then-is_behind-clause-told g c = rw (c.replace.ensures.after, c.note.view_is) (prefix_self _)

pub returns-then-is_behind-clause-own : goal.returns-then-is_behind-clause-own
returns-then-is_behind-clause-own g c = rw (c.replace.ensures.after, ← c.self.view_is) c.if-is_behind.ensures.0
