use Rattle.std.proofs.lemmas.Result.{on_ok_weaker}
use Rattle.delta_ops.proofs.Merged.{gone_added}
use Rattle.delta_ops.proofs.merging.add_gone.Goals as goal

pub returns-clause-ok : goal.returns-clause-ok
returns-clause-ok g c =
    on_ok_weaker c.add_missing.result
    (gone_added c.args.delta.now c.context.result.now c.store.result.now c.cloud-known.result.now c.args.dots.now.keys c.add_missing.new.dots.keys
    c.context.ensures.value c.store.ensures.value c.cloud-known.ensures.rest c.cloud-known.ensures.canonical) c.add_missing.ensures.ok
