-- Stores that were copied from a map, by their keys. Of this project.
use Rattle.std.specs.Prelude.{◌≡◌, List, ℕ, Option, Some, cond}
use Rattle.std.specs.BTreeMap.{BTreeMap, IsOrdered, get, is_at}
use Rattle.std.specs.FinMap as finite
use Rattle.dots.specs.Bytes.{bytes_cmp}
use Rattle.dots.specs.Dot.{DotValue}
use Rattle.dot_store.specs.Store.{HoldsSame}

module _ {S P H : Type 0} (at : S → P → DotValue → Option H) (m : finite.FinMap bytes_cmp S) (copies : BTreeMap (List ℕ) S) where
  -- the key's store has a copy that holds the same
  abbrev pub IsCopied : List ℕ → Type 0
  IsCopied key = (store : S) → finite.get m key ≡ Some store → (copy : S) × (get bytes_cmp copies key ≡ Some copy) × HoldsSame (at copy) (at store)

  -- each copy is of the store at its key
  abbrev pub AreOnlyCopies : Type 0
  AreOnlyCopies = (key : List ℕ) (copy : S) → get bytes_cmp copies key ≡ Some copy → (store : S) × (finite.get m key ≡ Some store)
      × HoldsSame (at copy) (at store)

  -- each key's store has a copy, there are no others, and their keys ascend
  pub record AreCopies : Type 0 where
    pub all : (key : List ℕ) → IsCopied key
    pub only : AreOnlyCopies
    pub ordered : IsOrdered bytes_cmp copies

-- at this key there is a copy of the store now, and the others are as they were
pub record AddsCopy {S P H : Type 0} (at : S → P → DotValue → Option H) (old new : BTreeMap (List ℕ) S) (key : List ℕ) (store : S) : Type 0 where
  pub copy : S
  pub same : HoldsSame (at copy) (at store)
  pub updates : (q : List ℕ) → get bytes_cmp new q ≡ cond (is_at (bytes_cmp key) q) (Some copy) (get bytes_cmp old q)
  pub ordered : IsOrdered bytes_cmp new
