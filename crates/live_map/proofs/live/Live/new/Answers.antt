use Rattle.trie_map.specs.Keyed.{at_keys}
use Rattle.trie_map.proofs.Holding.{nothing_of_empty}
use Rattle.live_map.proofs.Changing.{none_stands}
use Rattle.live_map.proofs.live.Live.new.Goals as goal

pub invariant_of-result : goal.invariant_of-result
invariant_of-result g c =
    let at = g.S.DotStore.at in
    let nothing = nothing_of_empty at c.args.hash c.new.result c.new.ensures in (
      λ place d. none_stands (at_keys at c.new.result place d) _ (nothing place d),
      λ key place d. none_stands (at_keys at c.new.result (key, place) d) _ (nothing (key, place) d),
    )

pub returns-clause-store : goal.returns-clause-store
returns-clause-store g c = nothing_of_empty g.S.DotStore.at c.args.hash c.new.result c.new.ensures
