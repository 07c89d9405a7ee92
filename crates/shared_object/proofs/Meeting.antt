-- Clients that are met one after the other: over plain lists.
use Rattle.std.proofs.Common.{◌≡◌, ◌≢◌, ℕ, zero, suc, ◌+◌, ◌<◌, ◌≤◌, ◌==◌, Bool, true, false, get_or, List, [], ◌∷◌, ◌++◌, take, drop, set, length, Some, refl}
use Rattle.std.proofs.Common.{sym, ◌∙◌, ap, subst, arith}
use Rattle.std.specs.List.{slice_get}
use Rattle.std.proofs.lemmas.List.{append-nil, take_all, drop_all}
use Rattle.std.proofs.lemmas.Bool.Decides.{nat_tests}

pub get_at : {X : Type 0} (xs : List X) (k : ℕ) (d : X) → k < length xs → slice_get xs k ≡ Some (get_or xs k d)
get_at [] k d lt = absurd (omega arith)
get_at (y ∷ xs) zero d lt = refl
get_at (y ∷ xs) (suc k) d lt = get_at xs k d (omega arith)

-- a slice of a whole vector, written back, is the vector
pub written_back : {X : Type 0} (new items : List X) (n : ℕ) → length new ≡ length items → n ≡ length items → take n (new ++ drop (length new) items) ≡ new
written_back new items n same len =
    let none : drop (length new) items ≡ [] = drop_all (length new) items (omega (arith, same)) in
    ap (λ ys. take n (new ++ ys)) none ∙ (ap (take n) (append-nil new) ∙ take_all n new (omega (arith, same, len)))

pub get_set_other : {X : Type 0} (xs : List X) (k i : ℕ) (y : X) → i ≢ k → slice_get (set xs k y) i ≡ slice_get xs i
get_set_other [] k i y isnt = refl
get_set_other (z ∷ xs) zero zero y isnt = absurd (isnt refl)
get_set_other (z ∷ xs) zero (suc i) y isnt = refl
get_set_other (z ∷ xs) (suc k) zero y isnt = refl
get_set_other (z ∷ xs) (suc k) (suc i) y isnt = get_set_other xs k i y (λ same. isnt (ap suc same))

module _ {X : Type 0} (old now : List X) (k : ℕ) (x : X) (here : slice_get now k ≡ Some x) (rest : (i : ℕ) → k ≤ i → slice_get now i ≡ slice_get old i) where
  was : (a : X) → slice_get old k ≡ Some a → a ≡ x
  was a there = let both : Some a ≡ Some x = sym there ∙ (sym (rest k (omega arith)) ∙ here) in cc

  -- what holds of the first k and of the next holds of one more
  pub own_more : (P : X → Type 0) → P x → ((i : ℕ) (a : X) → i < k → slice_get old i ≡ Some a → P a) → (i : ℕ) (a : X) → i < k + 1
      → slice_get old i ≡ Some a → P a
  own_more P it before i a below there = go (i == k) refl
    where
      go : (b : Bool) → (i == k) ≡ b → P a
      go true t = let same : i ≡ k = grind (arith, nat_tests) in subst P (sym (was a (subst (λ j. slice_get old j ≡ Some a) same there))) it
      go false f = let isnt : i ≢ k = grind (arith, nat_tests) in before i a (omega arith) there

  pub rest_more : (y : X) (i : ℕ) → k + 1 ≤ i → slice_get (set now k y) i ≡ slice_get old i
  rest_more y i le = get_set_other now k i y (omega arith) ∙ rest i (omega arith)
