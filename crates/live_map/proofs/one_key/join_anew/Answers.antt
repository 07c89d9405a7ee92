use Rattle.std.proofs.Common.{ap, ◌∙◌, ◌||◌}
use Rattle.std.proofs.lemmas.Result.{on_ok_weaker}
use Rattle.causal_context.specs.Context.{has}
use Rattle.dot_store.specs.Stores.{at_stores}
use Rattle.dots.specs.Bytes.{bytes_cmp}
use Rattle.live_map.proofs.OneKey.{made_written}
use Rattle.live_map.proofs.one_key.join_anew.Goals as goal

pub returns-clause-ok : goal.returns-clause-ok
returns-clause-ok g c =
    let at = g.S.DotStore.at in
    let yours = at_stores at bytes_cmp c.args.delta.now.0 in
    on_ok_weaker c.write_knowing.result
    (λ written. made_written at g.S.DotStore.greater c.args.store.now (has c.args.context.now) yours (has c.args.delta.now.1)
    c.args.touched.now c.args.key.now c.requires.all c.requires.only c.write_knowing.new.store _ c.in_ok-made.ensures.ok written)
    c.write_knowing.ensures.ok

pub returns-clause-known : goal.returns-clause-known
returns-clause-known g c =
    on_ok_weaker c.write_knowing.result
    (λ known d. known d ∙ ap (λ x. has c.args.context.now d || has x d) c.context.ensures.value)
    c.write_knowing.ensures.known
