use Rattle.std.specs.BTreeMap.{is_at}
use Rattle.dot_store.specs.Stores.{at_stores}
use Rattle.dot_store.proofs.Stores.{filled_found}
use Rattle.dot_store.proofs.dot_map.DotMap.get.Goals as goal

pub returns-clause-filled : goal.returns-clause-filled
unfolding at_stores
returns-clause-filled g c = filled_found g.S.DotStore.at (is_at (g.K.Ord.cmp c.args.key.now)) c.self.inside.stores c.get.result c.self.invariant.0 c.get.ensures
