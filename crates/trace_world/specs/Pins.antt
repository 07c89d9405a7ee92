-- How the pins are kept: each with its replica's name, what was held, and the replica's store. Of this project.
use Rattle.std.specs.Prelude.{◌≡◌, List, map}
use Rattle.std.specs.List.{All}
use Rattle.delta_ops.specs.LiveMap.{store_state}
use Rattle.dots.specs.Dot.{DotValue}
use Rattle.hash_path.specs.Fnv1a.{fnv1a}
use Rattle.op_model.specs.Place.{Place}
use Rattle.replica_model.specs.World.{World, nothing, Runs}
use Rattle.replica_world.specs.Held.{events_of}
use Rattle.trace_world.specs.Outcome.{PinValue}
use Rattle.trace_world.specs.declared.pin.Pin.{Pin}

-- what a pin is
abbrev pub pinned : {A : Type 0} → Pin A → PinValue
pinned pin = record { name = pin.name; events = events_of pin.past.value }

abbrev pub pins_of : {A : Type 0} → List (Pin A) → List PinValue
pins_of = map pinned

-- there is a world after what was held, and the pin's store holds what its replica did then
pub record IsPinned {A : Type 0} (pin : Pin A) : Type 0 where
  pub world : World
  pub runs : Runs fnv1a nothing (events_of pin.past.value) world
  pub holds : (place : Place) (dot : DotValue) → (store_state pin.store).at place dot ≡ (world.replica pin.name).live.at place dot

abbrev pub AllPinned : {A : Type 0} → List (Pin A) → Type 0
AllPinned pins = All IsPinned pins
