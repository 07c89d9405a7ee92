use Rattle.std.proofs.Common.{sym, refl}
use Rattle.replica_world.proofs.Recovered.{placed_saves, placed_back}
use Rattle.replica_world.proofs.saving.make_place.Goals as goal

pub returns-in-Ok-clause-saves : goal.returns-in-Ok-clause-saves
returns-in-Ok-clause-saves g c = placed_saves c.args.kept.now c.insert.new.self c.args.name _ c.in-Ok.ensures.updates (sym c.in_default.ensures.value) refl refl

pub returns-in-Ok-clause-checkpoints : goal.returns-in-Ok-clause-checkpoints
returns-in-Ok-clause-checkpoints g c = placed_back c.args.kept.now c.insert.new.self c.args.name _ c.in-Ok.ensures.updates
    (sym c.in_default.ensures.value) refl refl
