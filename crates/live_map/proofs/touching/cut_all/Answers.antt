use Rattle.std.proofs.Common.{sym, subst}
use Rattle.trie_map.specs.Keyed.{at_keys}
use Rattle.live_map.specs.Index.{IsGone}
use Rattle.live_map.proofs.Changing.{indexed_cut}
use Rattle.live_map.proofs.touching.cut_all.Goals as goal

pub loop-place-preserved : goal.loop-place-preserved
loop-place-preserved g c =
    let at = at_keys g.S.DotStore.at c.args.store.now in
    let place = c.place-item.result in
    let gone : IsGone at place = subst (IsGone at) (sym c.place-item.is) (c.requires.gone c.loop-place.place-index place c.loop-place-test.true) in
    indexed_cut at c.loop-place.index c.remove.new.self place c.remove.ensures gone c.loop-place.invariant
