-- Deltas that are put together key by key, and dots that stand in none of what they come to. Of this project.
use Rattle.std.specs.Prelude.{◌≡◌, ◌||◌, Bool, false, None, cond, IsTrue}
use Rattle.causal_context.specs.Context.{ContextValue, has}
use Rattle.causal_join.specs.OrMap.{OrMapStoreValue, or_map_at, path_of}
use Rattle.dots.specs.Dot.{DotValue}
use Rattle.op_model.specs.Meaning.{MapState}
use Rattle.op_model.specs.Place.{Place}
use Rattle.op_model.specs.State.{IsInside}

-- the dot is known and stands nowhere: it was removed
abbrev pub IsGone : MapState → DotValue → Type 0
IsGone group d = ((place : Place) → group.at place d ≡ None) × IsTrue (group.has d)

-- dots are added to those that are known, but for those that are gone, and none of them was known
abbrev pub AddsNew : (gone old new : ContextValue) → (DotValue → Bool) → Type 0
AddsNew gone old new more = (d : DotValue) → has gone d ≡ false → (has new d ≡ (has old d || more d)) × (IsTrue (more d) → has old d ≡ false)

-- at the dots that are not gone, the stores hold what the group does and the context knows what it knows, which is all that stands in it
pub record IsMerged (gone : ContextValue) (group : MapState) (stores : OrMapStoreValue) (known : ContextValue) : Type 0 where
  pub holds : (place : Place) (d : DotValue) → or_map_at stores (path_of place) d ≡ cond (has gone d) None (group.at place d)
  pub knows : (d : DotValue) → has gone d ≡ false → has known d ≡ group.has d
  pub inside : IsInside group
