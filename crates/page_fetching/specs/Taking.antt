-- What an asker has between an opening and the last page, in the words of the step of a session. Of this project.
use Rattle.std.specs.Prelude.{◌≡◌, ℕ, ◌≤◌, ◌<◌, List, Option, Some, None, length, refl}
use Rattle.std.specs.Coded.{Coded, code_by, coded×, coded_list, coded_ℕ}
use Rattle.std.specs.FinMap as finite
use Rattle.hash_path.specs.Path.{AreIndices, last_index}
use Rattle.sync_model.specs.Fetch.{Waiting, Fetch}
use Rattle.sync_model.specs.Fetch as model
use Rattle.page_fetching.specs.Building.{BuiltValue, built_code}

-- the prefixes that are waited for, each with its digest, and what is built
pub record FetchingValue (Hash : Type 0) : Type 0 where
  pub waiting : Waiting
  pub built : BuiltValue Hash

-- it is stored as the pair of its parts
abbrev pub fetching_code : {Hash : Type 0} → Coded Hash → Coded (FetchingValue Hash)
fetching_code {Hash} hash =
    code_by (Waiting × BuiltValue Hash) (coded× (finite.code (coded_list coded_ℕ) (coded_list coded_ℕ)) (built_code hash))
    (λ f. (f.waiting, f.built))
    (λ p. record { waiting = p.0; built = p.1 })
    (λ _. refl)

-- each prefix that is waited for is one: at most seven indices, none greater than the greatest there
abbrev pub ArePrefixes : Waiting → Type 0
ArePrefixes waiting = (p digest : List ℕ) → finite.get waiting p ≡ Some digest → AreIndices 0 p × (length p ≤ 7)

-- the step of a session is said of two finite maps
abbrev pub fetch_of : {Hash : Type 0} → FetchingValue Hash → Fetch
fetch_of f = record { waiting = f.waiting; built = f.built.entries }

-- what an opening with a root digest comes to: none is a mismatch
abbrev pub begun : {Hash : Type 0} → Option (FetchingValue Hash) → model.Taken
begun None = model.Mismatch
begun (Some f) = model.Took (fetch_of f)

-- a prefix can have a child of this index
abbrev pub IsChildOf : List ℕ → ℕ → Type 0
IsChildOf p index = (length p < 7) × (index ≤ last_index (length p))
