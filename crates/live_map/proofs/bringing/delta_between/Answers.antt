use Rattle.std.proofs.Common.{◌≡◌, sym, subst}
use Rattle.std.specs.Prelude.{IsTrue, ◌||◌}
use Rattle.causal_context.specs.Context.{has}
use Rattle.dot_store.specs.Stores.{at_stores}
use Rattle.dots.specs.Bytes.{bytes_cmp}
use Rattle.live_map.proofs.Brought.{dots_known, is_there}
use Rattle.live_map.proofs.bringing.delta_between.Goals as goal

pub unwrap-requires : goal.unwrap-requires
unwrap-requires g c = is_there c.from_parts.result c.from_parts.ensures.outside c.in-Ok.ensures.both

pub returns-in-Ok-clause-known : goal.returns-in-Ok-clause-known
returns-in-Ok-clause-known g c =
    let at = at_stores g.S.DotStore.at bytes_cmp in
    let pair_is : c.unwrap.result ≡ (c.in_ok-both.both, c.in-Ok.context) = rw c.unwrap.ensures at c.from_parts.ensures.pair in
    subst (λ (delta : _ × _). (d : _) → IsTrue (has delta.1 d) → IsTrue (has c.args.own.now d || has c.args.theirs.now d)) (sym pair_is)
    (λ d h. dots_known g.S.DotStore.greater (at c.args.mine.now) (at c.args.yours.now) (at c.in_ok-both.both) (has c.args.own.now) (has c.args.theirs.now)
    (has c.in-Ok.context) c.in_ok-both.ensures.ok c.requires.mine c.requires.yours d (c.in-Ok.ensures.only d h))
