-- Prefixes of one path: which of them begins which.
use Rattle.std.proofs.Common.{◌≡◌, ◌⊎◌, inl, inr, ℕ, zero, suc, ◌<◌, List, [], ◌∷◌, ◌++◌, length, drop, get_or, Bool, true, false, cond, nat_eq, arith, refl}
use Rattle.std.proofs.Common.{sym, ◌∙◌, ap, eqb-true, append_assoc}
use Rattle.std.proofs.lemmas.List.{length-append}
use Rattle.std.specs.Prelude.{◌&&◌}
use Rattle.hash_path.specs.Word.{word, begins}
use Rattle.hash_path.specs.Map.{path}
use Rattle.sync_model.specs.Differ.{IsAbove}

drop_first : (n : ℕ) (w : List ℕ) → get_or (drop 1 w) n 0 ≡ get_or w (suc n) 0
drop_first n [] = refl
drop_first n (x ∷ w) = refl

-- a longer prefix begins a word where the shorter does and the index is the next one
pub begins_further : (p w : List ℕ) (i : ℕ) → begins (p ++ i ∷ []) w ≡ begins p w && nat_eq i (get_or w (length p) 0)
begins_further [] w i = step (nat_eq i (get_or w 0 0))
  where
    step : (b : Bool) → cond b true false ≡ b
    step true = refl
    step false = refl
begins_further (j ∷ p) w i = step (nat_eq j (get_or w 0 0)) (begins_further p (drop 1 w) i
    ∙ ap (λ x. begins p (drop 1 w) && nat_eq i x) (drop_first (length p) w))
  where
    step : (b : Bool) → begins (p ++ i ∷ []) (drop 1 w) ≡ begins p (drop 1 w) && nat_eq i (get_or w (suc (length p)) 0)
        → cond b (begins (p ++ i ∷ []) (drop 1 w)) false ≡ cond b (begins p (drop 1 w)) false && nat_eq i (get_or w (suc (length p)) 0)
    step true e = e
    step false e = refl

-- two prefixes of one word are equal, or one is above the other
pub comparable : (p q w : List ℕ) → begins p w ≡ true → begins q w ≡ true → (p ≡ q) ⊎ (IsAbove p q ⊎ IsAbove q p)
comparable [] [] w a b = inl refl
comparable [] (j ∷ q) w a b = inr (inl (j, q, refl))
comparable (i ∷ p) [] w a b = inr (inr (i, p, refl))
comparable (i ∷ p) (j ∷ q) w a b = step (nat_eq i (get_or w 0 0)) (nat_eq j (get_or w 0 0)) refl refl a b (comparable p q (drop 1 w))
  where
    further : i ≡ j → (p ≡ q) ⊎ (IsAbove p q ⊎ IsAbove q p) → (i ∷ p ≡ j ∷ q) ⊎ (IsAbove (i ∷ p) (j ∷ q) ⊎ IsAbove (j ∷ q) (i ∷ p))
    further e (inl same) = inl (λ k. e k ∷ same k)
    further e (inr (inl (k, rest, is))) = inr (inl (k, rest, (λ t. sym e t ∷ is t)))
    further e (inr (inr (k, rest, is))) = inr (inr (k, rest, (λ t. e t ∷ is t)))

    step : (s t : Bool) → nat_eq i (get_or w 0 0) ≡ s → nat_eq j (get_or w 0 0) ≡ t → cond s (begins p (drop 1 w)) false ≡ true
        → cond t (begins q (drop 1 w)) false ≡ true
        → (begins p (drop 1 w) ≡ true → begins q (drop 1 w) ≡ true → (p ≡ q) ⊎ (IsAbove p q ⊎ IsAbove q p))
        → (i ∷ p ≡ j ∷ q) ⊎ (IsAbove (i ∷ p) (j ∷ q) ⊎ IsAbove (j ∷ q) (i ∷ p))
    step true true s t a b rest = further (eqb-true i (get_or w 0 0) s ∙ sym (eqb-true j (get_or w 0 0) t)) (rest a b)
    step true false s t a b rest = absurd cc
    step false t s u a b rest = absurd cc

pub length-further : (p : List ℕ) (i : ℕ) → length (p ++ i ∷ []) ≡ suc (length p)
length-further [] i = refl
length-further (j ∷ p) i = ap suc (length-further p i)

-- the next index of a path is below 32
index_below : (height hash n : ℕ) (key : List ℕ) → n < height → get_or (word height hash key) n 0 < 32
index_below zero hash n key h = absurd (omega (arith, h))
index_below (suc below) hash zero key h = omega arith
index_below (suc below) hash (suc n) key h = index_below below hash n key (omega (arith, h))

pub next_below : (hash_of : List ℕ → ℕ) (p key : List ℕ) → length p < 7 → get_or (path hash_of key) (length p) 0 < 32
next_below hash_of p key short = index_below 7 (hash_of key) (length p) key short

-- ---- what is above a prefix

pub snoc : (q : List ℕ) → (q ≡ []) ⊎ ((r : List ℕ) × (i : ℕ) × (q ≡ r ++ i ∷ []))
snoc [] = inl refl
snoc (x ∷ q) = step (snoc q)
  where
    step : (q ≡ []) ⊎ ((r : List ℕ) × (i : ℕ) × (q ≡ r ++ i ∷ [])) → (x ∷ q ≡ []) ⊎ ((r : List ℕ) × (i : ℕ) × (x ∷ q ≡ r ++ i ∷ []))
    step (inl none) = inr ([], x, ap (λ l. x ∷ l) none)
    step (inr (r, i, is)) = inr (x ∷ r, i, ap (λ l. x ∷ l) is)

-- the prefix itself is above what is one index on, and what else is above that is above the prefix
pub above_child : (p : List ℕ) (i : ℕ) → IsAbove p (p ++ i ∷ [])
above_child p i = (i, [], refl)

pub above_further : (q p : List ℕ) (i : ℕ) → IsAbove q (p ++ i ∷ []) → (q ≡ p) ⊎ IsAbove q p
above_further [] [] i h = inl refl
above_further [] (x ∷ p) i h = inr (x, p, refl)
above_further (y ∷ q) [] i h = absurd (let long = ap length h.2 in let more = length-append q (h.0 ∷ h.1) in omega (arith, long, more))
above_further (y ∷ q) (x ∷ p) i h = step (above_further q p i (h.0, h.1, ap behind h.2))
  where
    behind : List ℕ → List ℕ
    behind [] = []
    behind (x ∷ xs) = xs

    first : y ≡ x
    first = ap (λ l. get_or l 0 y) (sym h.2)

    step : (q ≡ p) ⊎ IsAbove q p → (y ∷ q ≡ x ∷ p) ⊎ IsAbove (y ∷ q) (x ∷ p)
    step (inl same) = inl (λ k. first k ∷ same k)
    step (inr (j, rest, is)) = inr (j, rest, λ k. sym first k ∷ is k)

pub above_all : (r q p : List ℕ) → IsAbove r q → IsAbove q p → IsAbove r p
above_all r q p (i, s, a) (j, t, b) = (i, s ++ j ∷ t, b ∙ ap (λ l. l ++ j ∷ t) a ∙ append_assoc r (i ∷ s) (j ∷ t))

pub not_above_itself : (p : List ℕ) → ¬ IsAbove p p
not_above_itself p (i, rest, is) = let long = ap length is in let more = length-append p (i ∷ rest) in omega (arith, long, more)
