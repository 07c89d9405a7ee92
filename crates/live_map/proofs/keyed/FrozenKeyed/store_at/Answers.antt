use Rattle.std.proofs.Common.{ap, sym}
use Rattle.dot_store.specs.Stores.{held_by}
use Rattle.trie_map.specs.Keyed.{at_keys}
use Rattle.live_map.proofs.keyed.FrozenKeyed.store_at.Goals as goal

pub returns : goal.returns
unfolding at_keys
returns g c = λ place d. ap (λ r. held_by g.S.DotStore.at r place d) (sym c.lookup.ensures)
