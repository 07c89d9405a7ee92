use Rattle.dots.specs.Dot.{same_dot}
use Rattle.op_model.specs.Place.{same_bytes}
use Rattle.causal_join.specs.OrMap.{path_of}
use Rattle.delta_ops.proofs.Stores.{held_alone_deep}
use Rattle.delta_ops.proofs.mutators.one_value.Goals as goal

pub returns-clause-ok : goal.returns-clause-ok
returns-clause-ok g c place d =
    let outer = rw c.in_ok-key.ensures.ok at (c.in_default-insert-2.ensures.ok (path_of place) d) in
    let inner = rw c.in_ok-field.ensures.ok at (c.in_default-insert.ensures.ok (place.field, tt) d) in
    let least = rw c.in_ok-value.ensures.ok at (c.in_default.ensures.ok tt d) in
    held_alone_deep (same_bytes c.args.key.now place.key) (same_bytes c.args.field.now place.field) (same_dot c.args.dot d)
    _ _ _ _ _ _ c.args.value.now outer inner least
    (c.empty-values.ensures tt d) (c.empty-fields.ensures (place.field, tt) d) (c.empty-store.ensures (path_of place) d)
