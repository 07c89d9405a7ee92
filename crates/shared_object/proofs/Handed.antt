-- Clients that are handed in beside those that were given back: over plain lists.
use Rattle.std.proofs.Common.{◌≡◌, ◌⊎◌, ⊎_elim, inl, inr, ℕ, zero, suc, ◌+◌, ◌<◌, Bool, true, false, MatchBool, List, [], ◌∷◌, ◌++◌, length, Some, ap, sym, ◌∙◌}
use Rattle.std.proofs.Common.{subst, arith, append_assoc}
use Rattle.std.specs.List.{slice_get}
use Rattle.shared_object.specs.History.{Seat}
use Rattle.shared_object.specs.Finishing.{AreOfAll, HasClient}

module _ {X : Type 0} where
  -- what is got from two lists in a row
  get_first : (xs ys : List X) (i : ℕ) (x : X) → slice_get xs i ≡ Some x → slice_get (xs ++ ys) i ≡ Some x
  get_first [] ys i x there = absurd cc
  get_first (z ∷ xs) ys zero x there = there
  get_first (z ∷ xs) ys (suc i) x there = get_first xs ys i x there

  get_second : (xs ys : List X) (i : ℕ) (x : X) → slice_get ys i ≡ Some x → slice_get (xs ++ ys) (length xs + i) ≡ Some x
  get_second [] ys i x there = let e : i ≡ 0 + i = omega arith in subst (λ n. slice_get ys n ≡ Some x) e there
  get_second (z ∷ xs) ys i x there =
      let e : suc (length xs + i) ≡ length (z ∷ xs) + i = omega arith in
      subst (λ n. slice_get (z ∷ xs ++ ys) n ≡ Some x) e (get_second xs ys i x there)

  in_either : (xs ys : List X) (i : ℕ) (x : X) → slice_get (xs ++ ys) i ≡ Some x → ((j : ℕ) × (slice_get xs j ≡ Some x)) ⊎ ((j : ℕ) × (slice_get ys j ≡ Some x))
  in_either [] ys i x there = inr (i, there)
  in_either (z ∷ xs) ys zero x there = inl (zero, there)
  in_either (z ∷ xs) ys (suc i) x there = ⊎_elim (λ h. inl (suc h.0, h.1)) (λ h. inr h) (in_either xs ys i x there)

  -- one of the rest goes over
  pub one_over : (all rest more whole next : List X) (x : X) → all ++ rest ≡ whole → rest ≡ x ∷ more → next ≡ all ++ x ∷ [] → next ++ more ≡ whole
  one_over all rest more whole next x parts step is =
      ap (λ ys. ys ++ more) is ∙ (append_assoc all (x ∷ []) more ∙ (ap (λ ys. all ++ ys) (sym step) ∙ parts))

module _ {E : Type 0} (xs ys : List (Seat E)) (p : ℕ) where
  pub among_first : HasClient xs p → HasClient (xs ++ ys) p
  among_first h = (h.0, h.1, get_first xs ys h.0 h.1 h.2, h.3)

  pub among_second : HasClient ys p → HasClient (xs ++ ys) p
  among_second h = (length xs + h.0, h.1, get_second xs ys h.0 h.1 h.2, h.3)

  pub among_none : ¬ HasClient xs p → ¬ HasClient ys p → ¬ HasClient (xs ++ ys) p
  among_none first second h =
      ⊎_elim (λ k. first (k.0, h.1, k.1, h.3)) (λ k. second (k.0, h.1, k.1, h.3)) (in_either xs ys h.0 h.1 h.2)

  pub among_either : ¬ HasClient xs p → (b : Bool) → MatchBool b (HasClient ys p) (¬ HasClient ys p)
      → MatchBool b (HasClient (xs ++ ys) p) (¬ HasClient (xs ++ ys) p)
  among_either first true h = among_second h
  among_either first false h = among_none first h

-- as many clients as places were taken, tested for each of these
pub of_all_tested : {E : Type 0} (xs ys : List (Seat E)) (taken : ℕ) → length (xs ++ ys) ≡ taken
    → (b : Bool) → MatchBool b ((p : ℕ) → p < taken → HasClient (xs ++ ys) p) ((p : ℕ) × (p < taken) × (¬ HasClient (xs ++ ys) p))
    → MatchBool b (AreOfAll taken (xs ++ ys)) (¬ AreOfAll taken (xs ++ ys))
of_all_tested xs ys taken count true h = (count, h)
of_all_tested xs ys taken count false h = λ all. h.2 (all.1 h.0 h.1)

pub same_of_all : {E : Type 0} (taken also : ℕ) (xs ys : List (Seat E)) → taken ≡ also → xs ≡ ys → AreOfAll taken xs → AreOfAll also ys
same_of_all taken also xs ys count same all = subst (λ n. AreOfAll n ys) count (subst (λ zs. AreOfAll taken zs) same all)
