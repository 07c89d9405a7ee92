use Rattle.dot_store.specs.Stores.{at_stores}
use Rattle.dot_store.proofs.dot_map.DotMapDotStore.copy.Goals as goal

pub returns-clause-ok : goal.returns-clause-ok
unfolding at_stores
returns-clause-ok g c = rw (← c.self.view_is) (λ place d. c.in_ok-stores.ensures.ok place.0 place.1 d)
