use Rattle.std.proofs.Common.{ap, ◌∙◌}
use Rattle.hash_path.specs.Map.{walk}
use Rattle.trie_map.specs.Copied.{IsCopied}
use Rattle.trie_map.proofs.Visits.{visits_none, visits_next, visits_more, visits_all}
use Rattle.trie_map.proofs.Copied.{copied_here, copied_apart, copied_only, no_copies}
use Rattle.trie_map.proofs.copying.copies.Goals as goal

pub loop-key-init : goal.loop-key-init
loop-key-init g c = (
  visits_none c.args.map.now.1 (g.H.PathHash.hash_of c.frozen.result.now.hash) c.into_iter-key-iterator.result
      (IsCopied g.S.DotStore.at c.args.map.now.1 c.new-copies.result)
      (c.into_iter-key-iterator.ensures.into_iter_gives ∙ c.iter-key-items.ensures
      ∙ ap (walk (g.H.PathHash.hash_of c.frozen.result.now.hash)) c.frozen.ensures.map),
  no_copies g.S.DotStore.at c.args.map.now.1 c.new-copies.result c.new-copies.ensures.empty,
  c.new-copies.ensures.ordered,
)

pub loop-key-preserved : goal.loop-key-preserved
loop-key-preserved g c =
    let at = g.S.DotStore.at in
    let m = c.args.map.now.1 in
    let old = c.loop-key.copies in
    let new = c.add_copy.new.copies in
    let key = c.in-Some.key.now in
    let store = c.in-Some.store.now in
    let there = visits_next m c.loop-key.key-iterator c.next.new.self key store (IsCopied at m old) c.loop-key.invariant.0 c.in-Some.ensures.steps in
    let adds = c.in_ok-add_copy.ensures.ok in (
      visits_more m c.loop-key.key-iterator c.next.new.self key store (IsCopied at m old) (IsCopied at m new) c.loop-key.invariant.0 c.in-Some.ensures.steps
          (copied_here at m old new key store there adds) (copied_apart at m old new key store there adds),
      copied_only at m old new key store there adds c.loop-key.invariant.1,
      adds.ordered,
    )

pub returns-clause-ok : goal.returns-clause-ok
returns-clause-ok g c = record {
  all = λ q s is. visits_all c.args.map.now.1 c.loop-key.key-iterator (IsCopied g.S.DotStore.at c.args.map.now.1 c.loop-key.copies)
      c.loop-key.invariant.0 c.in-None.ensures.steps.0 q s is s is;
  only = c.loop-key.invariant.1;
  ordered = c.loop-key.invariant.2;
}
