use Rattle.std.proofs.Common.{sym, subst}
use Rattle.trie_map.specs.Keyed.{at_keys}
use Rattle.live_map.specs.Index.{IsIndexed, IsGone}
use Rattle.live_map.proofs.Changing.{indexed_cut}
use Rattle.live_map.proofs.touching.cut_ended.Goals.{then-is_ended, else-is_ended}
use Rattle.live_map.proofs.touching.cut_ended.Goals as goal

pub loop-place-preserved : goal.loop-place-preserved
loop-place-preserved g c =
    let at = at_keys g.S.DotStore.at in
    let place = c.place-item.result in
    elim c.if-is_ended.branch [
      | then-is_ended w ↦
          let gone : IsGone (at c.args.store.now) place = c.requires.gone place (c.is_ended.ensures w.if-is_ended.true) in
          subst (IsIndexed (at c.args.store.now)) (sym w.index-is)
          (indexed_cut (at c.args.store.now) c.loop-place.index w.remove.new.self place w.remove.ensures gone c.loop-place.invariant)
      | else-is_ended w ↦ subst (IsIndexed (at c.args.store.now)) (sym w.index-is) c.loop-place.invariant
    ]
