-- Where two maps differ. Of this project.
use Rattle.std.specs.Prelude.{ℕ, List, Option, Some, None}
use Rattle.std.specs.FinMap as finite
use Rattle.dot_store.specs.Store.{HoldsSame}
use Rattle.causal_join.specs.OrMap.{FieldsValue, fields_at}
use Rattle.sync_model.specs.Differ.{Held}

-- at a key of both stand the same values under the same dots; or neither has it
abbrev pub AreSame : Option FieldsValue → Option FieldsValue → Type 0
AreSame None None = Unit {0}
AreSame (Some fields) (Some others) = HoldsSame (fields_at fields) (fields_at others)
AreSame _ _ = ⊥

abbrev pub IsChanged : Held → Held → List ℕ → Type 0
IsChanged older newer key = ¬ AreSame (finite.get older key) (finite.get newer key)
