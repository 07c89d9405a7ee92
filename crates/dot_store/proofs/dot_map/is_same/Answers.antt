use Rattle.std.proofs.Common.{sym}
use Rattle.dot_store.specs.Stores.{at_stores}
use Rattle.dot_store.proofs.dot_map.is_same.Goals as goal

pub returns-in-Some-Some : goal.returns-in-Some-Some
unfolding at_stores
returns-in-Some-Some g c = rw (c.in-Some-Some.is-0, c.in-Some-Some.is-1) c.same.ensures

pub returns-in-Some-None : goal.returns-in-Some-None
unfolding at_stores
returns-in-Some-None g c = rw (c.in-Some-None.is-0, c.in-Some-None.is-1) c.is_empty.ensures.nothing

pub returns-in-None-Some : goal.returns-in-None-Some
unfolding at_stores
returns-in-None-Some g c =
    rw (c.in-None-Some.is-0, c.in-None-Some.is-1)
    (λ t place d. sym (c.is_empty-in-None-Some.ensures.nothing.0 t place d), λ h. c.is_empty-in-None-Some.ensures.nothing.1 (λ place d. sym (h place d)))
