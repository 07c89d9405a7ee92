use Rattle.causal_context.specs.Context.{has}
use Rattle.dot_store.specs.Stores.{at_stores}
use Rattle.dots.specs.Bytes.{bytes_cmp}
use Rattle.live_map.proofs.OneKey.{step_joined}
use Rattle.live_map.proofs.one_key.join_raising.Goals as goal

pub returns-clause-ok : goal.returns-clause-ok
returns-clause-ok g c =
    let at = g.S.DotStore.at in
    step_joined at g.S.DotStore.greater c.args.store.now (has c.args.context.now) (at_stores at bytes_cmp c.args.delta.now.0) (has c.args.delta.now.1)
    c.args.touched.now c.args.key.now c.requires.all c.requires.only c.join_in.new.mine (c.in_ok-join_in.ensures.ok c.if-not-branch.false)
