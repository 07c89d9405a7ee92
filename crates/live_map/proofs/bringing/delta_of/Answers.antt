use Rattle.causal_context.specs.Context.{has}
use Rattle.causal_join.specs.Causal.{state_of}
use Rattle.dot_store.specs.Stores.{at_stores}
use Rattle.dots.specs.Bytes.{bytes_cmp}
use Rattle.trie_map.specs.Keyed.{at_keys}
use Rattle.live_map.specs.Closing.{stores_of}
use Rattle.live_map.proofs.Brought.{all_of, copy_inside, copies_bring}
use Rattle.live_map.proofs.bringing.delta_of.Goals as goal

pub delta_between-delta-requires-clause-mine : goal.delta_between-delta-requires-clause-mine
delta_between-delta-requires-clause-mine g c =
    let at = g.S.DotStore.at in
    copy_inside (at_keys at c.args.mine.now) (at_stores at bytes_cmp c.in_ok-before.before) (has c.args.own.now) c.args.keys.now.keys
    c.in_ok-before.ensures.ok c.requires.inside

pub delta_between-delta-requires-clause-yours : goal.delta_between-delta-requires-clause-yours
delta_between-delta-requires-clause-yours g c =
    let at = g.S.DotStore.at in
    copy_inside (at_keys at (stores_of c.args.built.now)) (at_stores at bytes_cmp c.in-Ok.other) (has c.args.theirs.now) c.args.keys.now.keys
    c.in-Ok.ensures.ok c.requires.built

pub returns-clause-ok : goal.returns-clause-ok
returns-clause-ok g c =
    let at = g.S.DotStore.at in
    let before = at_stores at bytes_cmp c.in_ok-before.before in
    let other = at_stores at bytes_cmp c.in-Ok.other in
    let told = c.delta_between-delta.ensures in
    all_of c.delta_between-delta.result
    (λ delta held stood new known. copies_bring g.S.DotStore.greater (at_keys at c.args.mine.now) (at_keys at (stores_of c.args.built.now))
    (has c.args.own.now) (has c.args.theirs.now) c.args.keys.now.keys before other c.in_ok-before.ensures.ok c.in-Ok.ensures.ok
    (state_of (at_stores at bytes_cmp) delta) held stood new known)
    told.held told.stood told.new told.known
