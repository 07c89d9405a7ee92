use Rattle.causal_context.specs.Context.{has}
use Rattle.dot_store.specs.Stores.{at_stores}
use Rattle.dot_store.specs.Store.{HoldsSame, state_with}
use Rattle.dots.specs.Bytes.{bytes_cmp}
use Rattle.op_model.specs.State.{join}
use Rattle.trie_map.specs.Keyed.{at_keys}
use Rattle.live_map.proofs.Repeating.{again_joined, again_inside, again_indexed}
use Rattle.live_map.proofs.again.join_again.Given as given
use Rattle.live_map.proofs.again.join_again.Goals as goal

same : (g : given.Over) (c : goal.In_ok-write g) → HoldsSame (at_keys g.S.DotStore.at c.write.new.store)
    (join g.S.DotStore.greater (state_with (at_keys g.S.DotStore.at c.args.store.now) (has c.args.context.now))
    (state_with (at_stores g.S.DotStore.at bytes_cmp c.args.delta.now.0) (has c.args.delta.now.1))).at
same g c =
    again_joined _ g.S.DotStore.greater _ _ _ _ _ _ c.requires.again c.requires.inside c.requires.indexed _ _ c.in_ok-made.ensures.ok c.in_ok-write.ensures.ok

pub returns-clause-ok : goal.returns-clause-ok
returns-clause-ok g c = same g c

pub returns-clause-inside : goal.returns-clause-inside
returns-clause-inside g c =
    again_inside _ g.S.DotStore.greater _ _ _ _ _ _ c.requires.again c.requires.inside c.requires.indexed _ c.context.ensures.inside (same g c)

pub returns-clause-indexed : goal.returns-clause-indexed
returns-clause-indexed g c =
    again_indexed _ g.S.DotStore.greater _ _ _ _ _ _ c.requires.again c.requires.inside c.requires.indexed _ c.context.ensures.inside (same g c)
