-- The calls of a place in a history and in its fronts, and their counts.
use Rattle.std.proofs.Common.{◌≡◌, ◌≢◌, ℕ, ◌+◌, ◌≤◌, ◌==◌, Bool, true, false, List, [], ◌∷◌, ◌++◌, length, take, slice_index, replicate, zero, suc, refl, ap}
use Rattle.std.proofs.Common.{sym, ◌∙◌, subst, arith, rules, length-append, eq-eqb}
use Rattle.std.proofs.lemmas.List.{append-nil, take-append-le, take_all}
use Rattle.std.proofs.lemmas.List.Elements.{filter-append}
use Rattle.std.proofs.lemmas.Bool.Decides.{nat_tests}
use mathlib.Core.List.{IsPrefix}
use Rattle.root_cell.proofs.Prefixes.{prefix_whole, prefix_trans}
use Rattle.shared_object.specs.History.{AreCounts, calls_by}

pub prefix_length : {A : Type 0} (xs ys : List A) → IsPrefix xs ys → length xs ≤ length ys
prefix_length xs ys p = omega (arith, sym (ap length p.1) ∙ length-append xs p.0)

-- of three lists that begin each other all are one where the last is no longer than the first
pub prefix_between : {A : Type 0} (xs ys zs : List A) → IsPrefix xs ys → IsPrefix ys zs → length zs ≤ length xs → zs ≡ xs
prefix_between xs ys zs p q le = sym (prefix_whole xs zs (prefix_trans xs ys zs p q) le)

-- one that is a list or this list and one more, and begins with the latter, is the latter
pub prefix_longer : {A : Type 0} (xs ys : List A) (x : A) → IsPrefix (xs ++ x ∷ []) ys → length ys ≤ length xs + 1 → ys ≡ xs ++ x ∷ []
prefix_longer xs ys x p le = sym (prefix_whole (xs ++ x ∷ []) ys p (omega (arith, length-append xs (x ∷ []))))

pub none_of : {A : Type 0} (xs : List A) → length xs ≡ 0 → xs ≡ []
none_of [] is = refl
none_of (x ∷ xs) is = absurd (omega arith)

pub zeros_at : (n p : ℕ) → slice_index (replicate n 0) p ≡ 0
zeros_at zero p = search rules
zeros_at (suc n) zero = search rules
zeros_at (suc n) (suc p) = zeros_at n p

module _ {E : Type 0} (place : E → ℕ) where
  pub calls-append : (p : ℕ) (xs ys : List E) → calls_by place p (xs ++ ys) ≡ calls_by place p xs ++ calls_by place p ys
  calls-append p xs ys = filter-append (λ e. place e == p) xs ys

  pub calls_one : (p : ℕ) (e : E) → place e ≡ p → calls_by place p (e ∷ []) ≡ e ∷ []
  calls_one p e is = rw (eq-eqb (place e) p is) refl

  calls_none : (p : ℕ) (e : E) → place e ≢ p → calls_by place p (e ∷ []) ≡ []
  calls_none p e isnt = let no : (place e == p) ≡ false = grind (arith, nat_tests) in rw no refl

  -- one call more, at a place and at another
  pub calls_more : (p : ℕ) (xs : List E) (e : E) → place e ≡ p → calls_by place p (xs ++ e ∷ []) ≡ calls_by place p xs ++ e ∷ []
  calls_more p xs e is = calls-append p xs (e ∷ []) ∙ ap (λ ys. calls_by place p xs ++ ys) (calls_one p e is)

  calls_same : (p : ℕ) (xs : List E) (e : E) → place e ≢ p → calls_by place p (xs ++ e ∷ []) ≡ calls_by place p xs
  calls_same p xs e isnt = calls-append p xs (e ∷ []) ∙ (ap (λ ys. calls_by place p xs ++ ys) (calls_none p e isnt) ∙ append-nil (calls_by place p xs))

  pub calls_length : (p : ℕ) (xs : List E) → length (calls_by place p xs) ≤ length xs
  calls_length p [] = omega arith
  calls_length p (x ∷ xs) = go (calls_length p xs) (place x == p) refl
    where
      go : length (calls_by place p xs) ≤ length xs → (b : Bool) → (place x == p) ≡ b → length (calls_by place p (x ∷ xs)) ≤ length (x ∷ xs)
      go rest true is = rw is (omega (arith, rest))
      go rest false is = rw is (omega (arith, rest))

  -- the counts with one more at the place of the event
  pub counts_more : (counts more : List ℕ) (xs : List E) (e : E) (p : ℕ) → place e ≡ p → AreCounts place counts xs
      → slice_index more p ≡ slice_index counts p + 1 → ((q : ℕ) → q ≢ p → slice_index more q ≡ slice_index counts q) → AreCounts place more (xs ++ e ∷ [])
  counts_more counts more xs e p is counted here elsewhere q = go (q == p) refl
    where
      go : (b : Bool) → (q == p) ≡ b → length (calls_by place q (xs ++ e ∷ [])) ≡ slice_index more q
      go true t =
          let same : q ≡ p = grind (arith, nat_tests) in
          let n = ap length (calls_more q xs e (is ∙ sym same)) ∙ length-append (calls_by place q xs) (e ∷ []) in
          let was = counted q in
          let now : slice_index more q ≡ slice_index counts q + 1 = subst (λ r. slice_index more r ≡ slice_index counts r + 1) (sym same) here in
          omega (arith, n, was, now)
      go false f =
          let other : q ≢ p = grind (arith, nat_tests) in
          ap length (calls_same q xs e (λ s. other (sym s ∙ is))) ∙ (counted q ∙ sym (elsewhere q other))

  -- the calls of a client in its front are the first of those in all that goes on from it
  pub calls_kept : (p : ℕ) (xs ys : List E) (n : ℕ) → IsPrefix xs ys → n ≤ length (calls_by place p xs)
      → take n (calls_by place p ys) ≡ take n (calls_by place p xs)
  calls_kept p xs ys n (rest, is) le =
      ap (λ (zs : List E). take n (calls_by place p zs)) (sym is)
      ∙ (ap (take n) (calls-append p xs rest) ∙ take-append-le n (calls_by place p xs) (calls_by place p rest) le)

  pub calls_grow : (p : ℕ) (xs ys : List E) → IsPrefix xs ys → length (calls_by place p xs) ≤ length (calls_by place p ys)
  calls_grow p xs ys (rest, is) =
      omega (
        arith,
        ap (λ (zs : List E). length (calls_by place p zs)) (sym is)
            ∙ (ap length (calls-append p xs rest) ∙ length-append (calls_by place p xs) (calls_by place p rest)),
      )

  -- and where there are no more, they are all
  pub calls_own : (p : ℕ) (xs ys : List E) (n : ℕ) → IsPrefix xs ys → n ≤ length (calls_by place p xs) → length (calls_by place p ys) ≡ n
      → calls_by place p ys ≡ take n (calls_by place p xs)
  calls_own p xs ys n pre le is = sym (take_all n (calls_by place p ys) (omega (arith, is))) ∙ calls_kept p xs ys n pre le
