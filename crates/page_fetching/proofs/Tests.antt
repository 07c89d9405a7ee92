-- The loops of a test of all items: what is left decides, where all so far passed.
use Rattle.std.proofs.Common.{◌≡◌, ℕ, ◌+◌, ◌<◌, ◌≤◌, List, [], ◌∷◌, length, drop, get_or, Bool, true, false, refl, sym, ◌∙◌, ap}
use Rattle.std.specs.Prelude.{◌&&◌}
use Rattle.std.specs.List.{list_all}
use Rattle.page_fetching.proofs.Loops.{stands_at, is_past}

module _ {X : Type 0} (passes : X → Bool) where
  -- of a list
  pub still_all : (all : Bool) (left right : List X) (x : X) → all ≡ list_all passes left → left ≡ x ∷ right → passes x ≡ true → all ≡ list_all passes right
  still_all all left right x before is pass = before ∙ ap (list_all passes) is ∙ step (passes x) pass
    where
      step : (b : Bool) → b ≡ true → b && list_all passes right ≡ list_all passes right
      step true e = refl
      step false e = absurd cc

  pub not_all : (all : Bool) (left right : List X) (x : X) → all ≡ list_all passes left → left ≡ x ∷ right → passes x ≡ false → false ≡ all
  not_all all left right x before is fail = sym (before ∙ ap (list_all passes) is ∙ step (passes x) fail)
    where
      step : (b : Bool) → b ≡ false → b && list_all passes right ≡ false
      step true e = absurd cc
      step false e = refl

  pub all_passed : (all : Bool) (left : List X) → all ≡ list_all passes left → left ≡ [] → true ≡ all
  all_passed all left before is = sym (before ∙ ap (list_all passes) is)

  -- of a slice
  pub still_all_of : (all : Bool) (xs : List X) (i : ℕ) (x : X) → all ≡ list_all passes (drop i xs) → i < length xs → x ≡ get_or xs i x → passes x ≡ true
      → all ≡ list_all passes (drop (i + 1) xs)
  still_all_of all xs i x before within is pass = still_all all (drop i xs) (drop (i + 1) xs) x before (stands_at xs i x within is) pass

  pub not_all_of : (all : Bool) (xs : List X) (i : ℕ) (x : X) → all ≡ list_all passes (drop i xs) → i < length xs → x ≡ get_or xs i x → passes x ≡ false
      → false ≡ all
  not_all_of all xs i x before within is fail = not_all all (drop i xs) (drop (i + 1) xs) x before (stands_at xs i x within is) fail

  pub all_passed_of : (all : Bool) (xs : List X) (i : ℕ) → all ≡ list_all passes (drop i xs) → length xs ≤ i → true ≡ all
  all_passed_of all xs i before past = all_passed all (drop i xs) before (is_past xs i past)
