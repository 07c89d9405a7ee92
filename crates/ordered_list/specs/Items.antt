-- Sets as lists of items that ascend.
-- Example: among the items 2, 4, 6 the item 4 has the place 1, and the item 5 the gap 2.
use Rattle.std.specs.Prelude.{◌≡◌, ℕ, zero, suc, ◌&&◌, ◌||◌, ◌+◌, ◌<◌, not, Bool, false, List, [], ◌∷◌, length, IsTrue}
use Rattle.std.specs.declared.cmp.Ordering.{Ordering}
use Rattle.std.specs.declared.cmp.Ordering.TheVariants.{Less, Equal, Greater}
use Rattle.std.specs.Ordering.{is_eq, is_lt, is_gt}
use Rattle.std.specs.List.{list_any}
use Rattle.std.specs.BTreeMap.{is_at}

module _ {T : Type 0} (cmp : T → T → Ordering) where
  -- whether the item is among these
  abbrev pub is_among : List T → T → Bool
  is_among items x = list_any (is_at (cmp x)) items

  -- whether an item is neither below the low one nor above the high one
  abbrev pub is_between : (low high : T) → T → Bool
  is_between low high x = not (is_lt (cmp x low)) && not (is_gt (cmp x high))

  -- the item is the greatest that is not above the high one
  pub record IsLastUpTo (items : List T) (high item : T) : Type 0 where
    pub there : IsTrue (is_among items item)
    pub within : is_gt (cmp item high) ≡ false
    pub greatest : (x : T) → IsTrue (is_among items x) → is_gt (cmp x high) ≡ false → is_gt (cmp x item) ≡ false

  -- the item stands at the place, and is above each one before it
  abbrev pub IsPlaceIn : T → List T → ℕ → Type 0
  IsPlaceIn item [] place = ⊥
  IsPlaceIn item (x ∷ xs) zero = cmp item x ≡ Equal
  IsPlaceIn item (x ∷ xs) (suc place) = (cmp item x ≡ Greater) × IsPlaceIn item xs place

  -- the item is above each one before the place, and below the one that stands there
  abbrev pub IsGapIn : T → List T → ℕ → Type 0
  IsGapIn item [] place = place ≡ 0
  IsGapIn item (x ∷ xs) zero = cmp item x ≡ Less
  IsGapIn item (x ∷ xs) (suc place) = (cmp item x ≡ Greater) × IsGapIn item xs place

  -- an item of either list, and what is left of them: the others, which are fewer
  pub record IsTaken (mine yours my_rest your_rest : List T) (item : T) : Type 0 where
    pub others : (x : T) → (is_among mine x || is_among yours x) ≡ (is_eq (cmp x item) || (is_among my_rest x || is_among your_rest x))
    pub fewer : length my_rest + length your_rest < length mine + length yours
