use Rattle.dot_store.specs.Stores.{at_stores}
use Rattle.dot_store.proofs.dot_map.DotMapDotStore.same.Goals as goal

pub returns : goal.returns
unfolding at_stores
returns g c =
    rw (← c.self.view_is, ← c.other.view_is) (
      λ t place d. c.are_same.ensures.0 t place.0 place.1 d,
      λ h. c.are_same.ensures.1 (λ key place d. h (key, place) d),
    )
