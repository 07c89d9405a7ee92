use Rattle.std.proofs.Common.{ap}
use Rattle.op_model.specs.Operation.{has as is_among}
use Rattle.delta_ops.proofs.Erasing.{gathers_key, gathers_no_key}
use Rattle.delta_ops.specs.LiveMap.{as_or_map}
use Rattle.delta_ops.proofs.erasures.dots_within.Goals as goal
use Rattle.delta_ops.proofs.erasures.dots_within.Goals.{in-Some+in_ok-gather_fields, in_default}

pub returns-clause-ok : goal.returns-clause-ok
returns-clause-ok g c =
    let live = as_or_map c.args.live.now.0 in
    let found = rw c.store.ensures.value at c.fields_of.ensures.held in
    elim c.match-fields_of.branch [
      | in-Some+in_ok-gather_fields w ↦
          rw w.dots-is (gathers_key live c.args.key.now w.in-Some.fields.now c.new-dots.result.keys w.gather_fields.new.dots.keys
          (λ place d. rw w.in-Some.is at (found place d)) (λ d. ap (λ dots. is_among dots d) c.new-dots.ensures.empty) w.in_ok-gather_fields.ensures.ok)
      | in_default w ↦
          rw w.dots-is (gathers_no_key live c.args.key.now c.new-dots.result.keys
          (λ place d. rw w.in_default.is at (found place d)) (λ d. ap (λ dots. is_among dots d) c.new-dots.ensures.empty))
    ]
