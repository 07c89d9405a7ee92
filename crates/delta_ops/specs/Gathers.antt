-- What a set of values has in it that were gathered one after another. Of this project.
use Rattle.std.specs.Prelude.{◌≡◌, ℕ, List, ◌++◌, Some, Contains, ◌↔◌}
use Rattle.causal_join.specs.OrMap.{ValuesValue}
use Rattle.dot_store.specs.Stores.{at_values}
use Rattle.dots.specs.Dot.{DotValue}
use Rattle.op_model.specs.Shown.{IsAscending}

-- the set has just these values, ascending, each once
pub record Gathers (found values : List (List ℕ)) : Type 0 where
  pub ascending : IsAscending found
  pub there : (value : List ℕ) → Contains values value → Contains found value
  pub back : (value : List ℕ) → Contains found value → Contains values value

-- these were gathered besides, whatever the set had in it before
abbrev pub GathersMore : List (List ℕ) → List (List ℕ) → List (List ℕ) → Type 0
GathersMore old found more = (values : List (List ℕ)) → Gathers old values → Gathers found (values ++ more)

-- a value stands at a dot of a map from dots to values exactly where the two are an entry
abbrev pub AreEntries : ValuesValue → Type 0
AreEntries values = (dot : DotValue) (value : List ℕ) → (at_values values tt dot ≡ Some value) ↔ Contains values (dot, value)
