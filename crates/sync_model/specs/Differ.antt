-- Where two maps differ, by the pages of their hash paths, and what an asker of the one waits for of the other. Of this project.
use Rattle.std.specs.Prelude.{◌≡◌, ◌≢◌, ℕ, List, ◌∷◌, ◌++◌, Some}
use Rattle.std.specs.FinMap as finite
use Rattle.dots.specs.Bytes.{bytes_cmp}
use Rattle.causal_join.specs.OrMap.{FieldsValue}
use Rattle.wire_form.specs.Page.{Branch}
use Rattle.prefix_digest.specs.Page.{page_at, digest_at}

abbrev pub Held : Type 0
Held = finite.FinMap bytes_cmp FieldsValue

-- a prefix begins another, and is not the whole of it
abbrev pub IsAbove : List ℕ → List ℕ → Type 0
IsAbove p q = (i : ℕ) × (rest : List ℕ) × (q ≡ p ++ i ∷ rest)

-- the page at a prefix is a branch
abbrev pub IsBranchAt : (List ℕ → ℕ) → Held → List ℕ → Type 0
IsBranchAt hash_of m p = (children : List (ℕ × List ℕ)) × (page_at hash_of m p ≡ Some (Branch children))

module _ (hash_of : List ℕ → ℕ) (own theirs : Held) where
  -- they have a digest there that is not the own one
  abbrev pub HasOther : List ℕ → List ℕ → Type 0
  HasOther p digest = (digest_at hash_of theirs p ≡ Some digest) × (digest_at hash_of own p ≢ Some digest)

  -- The maps differ there by this digest of theirs: at the prefix and at each one above it, which are branches of theirs
  abbrev pub Differ : List ℕ → List ℕ → Type 0
  Differ p digest = HasOther p digest × ((q : List ℕ) → IsAbove q p → IsBranchAt hash_of theirs q × ((d : List ℕ) × HasOther q d))

  -- what is waited for once these were taken: a prefix where they differ that was not taken, and all above it were
  abbrev pub Waits : (List ℕ → Type 0) → List ℕ → List ℕ → Type 0
  Waits Taken p digest = Differ p digest × (¬ Taken p) × ((q : List ℕ) → IsAbove q p → Taken q)
