use Rattle.causal_context.specs.Context.{has}
use Rattle.causal_join.specs.Causal.{state_of}
use Rattle.dot_store.specs.Stores.{at_stores}
use Rattle.dots.specs.Bytes.{bytes_cmp}
use Rattle.trie_map.specs.Keyed.{at_keys}
use Rattle.live_map.specs.Closing.{stores_of}
use Rattle.live_map.proofs.Brought.{brings_all}
use Rattle.live_map.proofs.bringing.brought_at.Goals as goal

pub returns-in-Ok-true-clause-ok : goal.returns-in-Ok-true-clause-ok
returns-in-Ok-true-clause-ok g c =
    let at = g.S.DotStore.at in
    brings_all g.S.DotStore.greater g.met.S.DotStore.greater_assoc g.met.S.DotStore.greater_idem
    (at_keys at c.args.mine.now) (at_keys at (stores_of c.args.built.now)) (has c.args.own.now) (has c.args.theirs.now) c.args.keys.now.keys c.args.index.now
    (state_of (at_stores at bytes_cmp) c.in_ok-delta.delta) c.requires.changes c.requires.inside c.requires.indexed c.in_ok-delta.ensures.ok
    (c.in-Ok-true.ensures.ok c.in-Ok-true.field-0-test)
