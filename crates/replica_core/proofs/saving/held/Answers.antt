use Rattle.std.proofs.Common.{◌∙◌, ap}
use Rattle.causal_join.specs.OrMap.{or_map_state}
use Rattle.op_model.specs.Meaning.{greater}
use Rattle.op_model.specs.State.{join}
use Rattle.replica_core.proofs.Pairs.{bottom_live, live_joined}
use Rattle.replica_core.proofs.Whole.{join_nothing}
use Rattle.replica_core.proofs.saving.held.Goals as goal

pub returns-clause-ok : goal.returns-clause-ok
returns-clause-ok g c =
    live_joined c.join_delta.new.self.0 c.new-live.result.0 c.args.delta c.in_default.ensures.ok
    ∙ ap (λ p. join greater p (or_map_state c.args.delta)) (bottom_live c.new-live.result.0 c.new-live.ensures.store c.new-live.ensures.context)
    ∙ join_nothing (or_map_state c.args.delta)
