-- Where a key stands, or would stand, in a list of entries whose keys ascend.
-- Example: among the keys 2, 4, 6 the key 4 has the place 1, and the key 5 the gap 2.
use Rattle.std.specs.Prelude.{◌≡◌, ℕ, zero, suc, Option, List, [], ◌∷◌}
use Rattle.std.specs.declared.cmp.Ordering.{Ordering}
use Rattle.std.specs.declared.cmp.Ordering.TheVariants.{Less, Equal, Greater}
use Rattle.std.specs.Map.{lookup}
use Rattle.std.specs.BTreeMap.{is_at}

-- the value at the key, if there is one
abbrev pub value_at : {K V : Type 0} → (K → K → Ordering) → List (K × V) → K → Option V
value_at cmp es key = lookup (is_at (cmp key)) es

module _ {K V : Type 0} (cmp : K → K → Ordering) (key : K) where
  -- the key stands at the place, and is above each key before it
  abbrev pub IsPlaceOf : List (K × V) → ℕ → Type 0
  IsPlaceOf [] place = ⊥
  IsPlaceOf (e ∷ es) zero = cmp key e.0 ≡ Equal
  IsPlaceOf (e ∷ es) (suc place) = (cmp key e.0 ≡ Greater) × IsPlaceOf es place

  -- the key is above each key before the place, and below the one that stands there
  abbrev pub IsGapFor : List (K × V) → ℕ → Type 0
  IsGapFor [] place = place ≡ 0
  IsGapFor (e ∷ es) zero = cmp key e.0 ≡ Less
  IsGapFor (e ∷ es) (suc place) = (cmp key e.0 ≡ Greater) × IsGapFor es place
