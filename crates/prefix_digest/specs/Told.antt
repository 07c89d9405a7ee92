-- How much a part of a map has to tell.
use Rattle.std.specs.Prelude.{◌≡◌, ℕ, ◌≤◌, List, [], ◌∷◌, length}
use Rattle.causal_join.specs.OrMap.{FieldsValue}
use Rattle.prefix_digest.specs.declared.told.Told.{Told}
use Rattle.prefix_digest.specs.declared.told.Told.TheVariants.{Nothing, OneKey, Several}

-- the entries are none, the one of this key, or several
abbrev pub TellsEntries : {A : Type 0} → List (List ℕ × FieldsValue) → Told A → Type 0
TellsEntries entries Nothing = entries ≡ []
TellsEntries entries (OneKey key fields) = entries ≡ (key.now, fields.now) ∷ []
TellsEntries entries Several = 2 ≤ length entries
