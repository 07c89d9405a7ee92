-- The first of a list that passes a test, as a search goes along it.
use Rattle.std.proofs.Common.{◌≡◌, ◌<◌, ◌≤◌, ◌+◌, ◌⊎◌, inl, inr, ℕ, List, Bool, true, false, Some, length, get_or, refl, sym, ◌∙◌, subst, arith}
use Rattle.std.specs.Prelude.{◌==◌}
use Rattle.std.specs.List.{slice_get}
use Rattle.std.proofs.lemmas.Bool.Decides.{eqb_tells}
use Rattle.std.proofs.lemmas.Option.{slice_get_read, slice_get_within}

module _ {X : Type 0} (test : X → Bool) (xs : List X) where
  -- none before this place passes
  abbrev pub NoneBefore : ℕ → Type 0
  NoneBefore i = (j : ℕ) (b : X) → j < i → slice_get xs j ≡ Some b → test b ≡ false

  pub first_here : (i : ℕ) (x : X) → i < length xs → x ≡ get_or xs i x → test x ≡ true → NoneBefore i
      → (y : X) × ((slice_get xs i ≡ Some y) × (test y ≡ true) × NoneBefore i)
  first_here i x within is passes before = (x, (slice_get_read xs (length xs) i x refl within is, passes, before))

  either : (j i : ℕ) → j < i + 1 → (j < i) ⊎ (j ≡ i)
  either j i within = grind (arith, Rattle.std.proofs.lemmas.Bool.Decides.nat_tests)

  pub none_here : (i : ℕ) (x : X) → i < length xs → x ≡ get_or xs i x → test x ≡ false → NoneBefore i → NoneBefore (i + 1)
  none_here i x within is fails before = λ j b near there. step j b (either j i near) there
    where
      here : slice_get xs i ≡ Some x
      here = slice_get_read xs (length xs) i x refl within is

      one : (b : X) → slice_get xs i ≡ Some b → test b ≡ false
      one b there = let e : Some b ≡ Some x = sym there ∙ here in let same : b ≡ x = cc in subst (λ y. test y ≡ false) (sym same) fails

      step : (j : ℕ) (b : X) → (j < i) ⊎ (j ≡ i) → slice_get xs j ≡ Some b → test b ≡ false
      step j b (inl nearer) there = before j b nearer there
      step j b (inr same) there = one b (subst (λ k. slice_get xs k ≡ Some b) same there)

  pub none_anywhere : (i : ℕ) → length xs ≤ i → NoneBefore i → (j : ℕ) (b : X) → slice_get xs j ≡ Some b → test b ≡ false
  none_anywhere i all before j b there = let within = slice_get_within xs j b there in before j b (omega (arith, within, all)) there

-- numbers that differ are told apart
pub apart_test : (n m : ℕ) → (n ≡ m → ⊥) → (n == m) ≡ false
apart_test n m apart = either (eqb_tells n m)
  where
    either : (((n == m) ≡ true) × (n ≡ m)) ⊎ (((n == m) ≡ false) × (n ≡ m → ⊥)) → (n == m) ≡ false
    either (inl (same, e)) = absurd (apart e)
    either (inr (other, e)) = other
