use Rattle.delta_ops.proofs.Stacking.{inside_both, known_both}
use Rattle.delta_ops.proofs.joining.+known_by.Goals as goal

pub returns-clause-ok : goal.returns-clause-ok
returns-clause-ok g t c =
    known_both c.union.result c.args.deltas.now c.split_at.result.0.now c.split_at.result.1.now c.in_ok-older.older c.in_ok-newer.newer
    c.split_at.ensures.by_index.0 c.in_ok-older.ensures.ok c.in_ok-newer.ensures.ok c.union.ensures.ok

pub returns-clause-inside : goal.returns-clause-inside
returns-clause-inside g t c =
    inside_both c.union.result c.args.deltas.now c.split_at.result.0.now c.split_at.result.1.now c.split_at.ensures.by_index.0
    c.in_ok-older.ensures.inside c.in_ok-newer.ensures.inside
