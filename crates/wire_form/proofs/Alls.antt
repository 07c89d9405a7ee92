-- What holds of each of a list, tested one after another.
use Rattle.std.proofs.Common.{◌≡◌, ℕ, zero, suc, ◌<◌, ◌≤◌, ◌+◌, Bool, true, false, List, [], ◌∷◌, ◌++◌, length, take, get_or, ◌↔◌, refl, sym, ap, subst, ◌∙◌}
use Rattle.std.proofs.Common.{arith, eqb}
use Rattle.std.specs.Prelude.{IsTrue}
use Rattle.std.specs.List.{AllByRecursion}
use Rattle.std.proofs.lemmas.Bool.{eqb-true}
use Rattle.std.proofs.lemmas.List.{take_more, take_all}
use Rattle.wire_form.specs.Page.{NamesValue, NamedValue, EntryValue}
use Rattle.wire_form.specs.Sent.{IsFilled}

module _ {X : Type 0} (P : X → Type 0) where
  push_all : (xs : List X) (x : X) → AllByRecursion P xs → P x → AllByRecursion P (xs ++ x ∷ [])
  push_all [] x p q = (q, tt)
  push_all (y ∷ ys) x p q = (p.0, push_all ys x p.1 q)

  pub all_more : (xs : List X) (i : ℕ) (x : X) → AllByRecursion P (take i xs) → i < length xs → x ≡ get_or xs i x → P x → AllByRecursion P (take (i + 1) xs)
  all_more xs i x p h is q =
      let more : take (i + 1) xs ≡ take i xs ++ x ∷ [] = take_more xs i x h ∙ ap (λ (y : X). take i xs ++ y ∷ []) (sym is) in
      subst (AllByRecursion P) (sym more) (push_all (take i xs) x p q)

  pub all_there : (xs : List X) (i : ℕ) → AllByRecursion P (take i xs) → length xs ≤ i → AllByRecursion P xs
  all_there xs i p h = subst (AllByRecursion P) (take_all i xs h) p

  pub not_all : (xs : List X) (i : ℕ) (x : X) → i < length xs → x ≡ get_or xs i x → (P x → ⊥) → AllByRecursion P xs → ⊥
  not_all [] i x h is bad all = omega arith
  not_all (y ∷ ys) zero x h is bad all = bad (subst P (sym is) all.0)
  not_all (y ∷ ys) (suc i) x h is bad all = not_all ys i x (omega arith) is bad all.1

  pub tested_all : (xs : List X) (i : ℕ) → AllByRecursion P (take i xs) → length xs ≤ i → IsTrue true ↔ AllByRecursion P xs
  tested_all xs i p h = (λ _. all_there xs i p h, λ _. refl)

  pub tested_not : (xs : List X) (i : ℕ) (x : X) → i < length xs → x ≡ get_or xs i x → (P x → ⊥) → IsTrue false ↔ AllByRecursion P xs
  tested_not xs i x h is bad = (λ t. absurd (cc t), λ all. absurd (not_all xs i x h is bad all))

  -- the same, where the item is read from its place
  pub read_more : (xs : List X) (i : ℕ) (d : X) → AllByRecursion P (take i xs) → i < length xs → P (get_or xs i d) → AllByRecursion P (take (i + 1) xs)
  read_more xs i d p h q =
      subst (AllByRecursion P) (sym (take_more xs i d h)) (push_all (take i xs) (get_or xs i d) p q)

  read_none : (xs : List X) (i : ℕ) (d : X) → i < length xs → (P (get_or xs i d) → ⊥) → AllByRecursion P xs → ⊥
  read_none [] i d h bad all = omega arith
  read_none (y ∷ ys) zero d h bad all = bad all.0
  read_none (y ∷ ys) (suc i) d h bad all = read_none ys i d (omega arith) bad all.1

  pub read_not : (xs : List X) (i : ℕ) (d : X) → i < length xs → (P (get_or xs i d) → ⊥) → IsTrue false ↔ AllByRecursion P xs
  read_not xs i d h bad = (λ t. absurd (cc t), λ all. absurd (read_none xs i d h bad all))

-- a test that was not met
pub unmet : {P : Type 0} → IsTrue false ↔ P → P → ⊥
unmet h p = let t = h.1 p in absurd (cc t)

pub met : {P : Type 0} → IsTrue true ↔ P → P
met h = h.0 refl

-- ---- keys with their fields

abbrev pub HasDot : List ℕ × NamesValue → Type 0
HasDot f = 1 ≤ length f.1

abbrev pub HasFields : EntryValue → Type 0
HasFields e = IsFilled e.1

pub filled : (fs es : NamedValue) (r : Bool) → es ≡ fs → false ≡ eqb (length es) 0 → IsTrue r ↔ AllByRecursion HasDot es → IsTrue r ↔ IsFilled fs
filled fs es r is more h = subst (λ (gs : NamedValue). IsTrue r ↔ IsFilled gs) is (λ t. (some es more, h.0 t), λ f. h.1 f.1)
  where
    some : (xs : NamedValue) → false ≡ eqb (length xs) 0 → 1 ≤ length xs
    some [] e = absurd (cc e)
    some (x ∷ xs) e = omega arith

pub not_filled : (fs es : NamedValue) → es ≡ fs → true ≡ eqb (length es) 0 → IsTrue false ↔ IsFilled fs
not_filled fs es is nothing = (λ t. absurd (cc t), λ f. absurd (none fs (ap (λ (gs : NamedValue). eqb (length gs) 0) (sym is) ∙ sym nothing) f.0))
  where
    none : (xs : NamedValue) → eqb (length xs) 0 ≡ true → 1 ≤ length xs → ⊥
    none xs e h = omega (arith, eqb-true (length xs) 0 e)
