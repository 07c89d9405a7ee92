use Rattle.std.proofs.Common.{sym, subst, List}
use mathlib.Core.List.{IsPrefix}
use Rattle.root_cell.proofs.Prefixes.{prefix_self}
use Rattle.shared_object.proofs.client.snapshot_at.Goals as goal

pub returns-in-Err-clause-seen : goal.returns-in-Err-clause-seen
returns-in-Err-clause-seen g c = subst (λ (f : List _). IsPrefix c.args.view f) (sym c.in-Err.ensures.back) (prefix_self _)
