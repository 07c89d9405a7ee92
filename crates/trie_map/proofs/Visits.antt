-- A walk of a map that is under way: what is left of it are entries of the map, and what was done holds at the other keys.
use Rattle.std.proofs.Common.{◌≡◌, ℕ, List, [], ◌∷◌, Bool, true, false, Some, refl, sym, ap, subst, inl, inr, ⊎_elim}
use Rattle.std.specs.Prelude.{◌⊎◌, Contains}
use Rattle.std.specs.List.{All}
use Rattle.std.specs.Ordering.{eq_by_cmp}
use Rattle.std.specs.FinMap as finite
use Rattle.std.proofs.lemmas.List.Elements.{All-nil, All-cons, All-head, All-tail, All-weaker, All-contains}
use Rattle.dots.specs.Bytes.{bytes_cmp}
use Rattle.hash_path.specs.Map.{walk}
use Rattle.hash_path.proofs.Parts.{walk_found, walk_has}
use Rattle.hash_path.proofs.Words.{same_tied, tied_same}

-- x is one of the list
abbrev pub Among : {X : Type 0} → List X → X → Type 0
Among [] x = ⊥
Among (y ∷ ys) x = (y ≡ x) ⊎ Among ys x

among_all : {X : Type 0} (P : X → Type 0) (xs : List X) (x : X) → All P xs → Among xs x → P x
among_all P [] x all h = absurd h
among_all P (y ∷ ys) x all h = ⊎_elim (λ e. subst P e (All-head P y ys all)) (λ there. among_all P ys x (All-tail P y ys all) there) h

all_among : {X : Type 0} (xs : List X) → All (Among xs) xs
all_among [] = All-nil (Among [])
all_among (y ∷ ys) = All-cons (Among (y ∷ ys)) y ys (inl refl) (All-weaker (Among ys) (Among (y ∷ ys)) (λ x there. inr there) ys (all_among ys))

among_contained : {X : Type 0} (xs : List X) (x : X) → Contains xs x → Among xs x
among_contained xs x h = All-contains (Among xs) xs x (all_among xs) h

-- ---- a walk under way
module _ {V : Type 0} (m : finite.FinMap bytes_cmp V) where
  -- what is left are entries of the map, and each other entry's key was visited
  pub record Visits (rest : List (List ℕ × V)) (Done : List ℕ → Type 0) : Type 0 where
    pub left : (q : List ℕ) (v : V) → Among rest (q, v) → finite.get m q ≡ Some v
    pub done : (q : List ℕ) (v : V) → finite.get m q ≡ Some v → Among rest (q, v) ⊎ Done q

  pub visits_none : (f : List ℕ → ℕ) (rest : List (List ℕ × V)) (Done : List ℕ → Type 0) → rest ≡ walk f m → Visits rest Done
  visits_none f rest Done is = record {
    left = λ q v h. among_all (λ (e : List ℕ × V). finite.get m e.0 ≡ Some e.1) (walk f m) (q, v) (walk_found f m) (subst (λ es. Among es (q, v)) is h);
    done = λ q v h. inl (subst (λ es. Among es (q, v)) (sym is) (among_contained (walk f m) (q, v) (walk_has f m q v h)));
  }

  -- the next entry is one of the map
  pub visits_next : (rest more : List (List ℕ × V)) (k : List ℕ) (v : V) (Done : List ℕ → Type 0) → Visits rest Done → rest ≡ (k, v) ∷ more
      → finite.get m k ≡ Some v
  visits_next rest more k v Done before is = before.left k v (subst (λ es. Among es (k, v)) (sym is) (inl refl))

  module _ (rest more : List (List ℕ × V)) (k : List ℕ) (v : V) (Done Then : List ℕ → Type 0) (before : Visits rest Done) (is : rest ≡ (k, v) ∷ more) where
    -- once its key was visited too, with the other keys as they were
    pub visits_more : Then k → ((q : List ℕ) → eq_by_cmp bytes_cmp q k ≡ false → Done q → Then q) → Visits more Then
    visits_more here apart = record {
      left = λ q w h. before.left q w (subst (λ es. Among es (q, w)) (sym is) (inr h));
      done = λ q w h. step q w (eq_by_cmp bytes_cmp q k) refl (subst (λ es. Among es (q, w) ⊎ Done q) is (before.done q w h));
    }
      where
        step : (q : List ℕ) (w : V) (b : Bool) → eq_by_cmp bytes_cmp q k ≡ b → Among ((k, v) ∷ more) (q, w) ⊎ Done q → Among more (q, w) ⊎ Then q
        step q w true t h = inr (subst Then (sym (tied_same q k t)) here)
        step q w false t h = ⊎_elim (λ there. ⊎_elim (λ e. absurd (cc (t, same_tied q k (sym (ap (λ x. x.0) e))))) (λ later. inl later) there)
            (λ was. inr (apart q t was)) h

  -- at the end each key was visited
  pub visits_all : (rest : List (List ℕ × V)) (Done : List ℕ → Type 0) → Visits rest Done → rest ≡ [] → (q : List ℕ) (v : V) → finite.get m q ≡ Some v → Done q
  visits_all rest Done all is q v h = ⊎_elim (λ there. absurd (subst (λ es. Among es (q, v)) is there)) (λ done. done) (all.done q v h)

  -- ---- the same, of a fact about each value
  abbrev pub Reached : (V → Type 0) → List ℕ → Type 0
  Reached P q = (v : V) → finite.get m q ≡ Some v → P v

  reached_at : (P : V → Type 0) (k : List ℕ) (v : V) → finite.get m k ≡ Some v → P v → Reached P k
  reached_at P k v at here w is = let same : v ≡ w = cc in subst P same here

  pub reached_more : (P Q : V → Type 0) (rest more : List (List ℕ × V)) (k : List ℕ) (v : V) → Visits rest (Reached P) → rest ≡ (k, v) ∷ more
      → ((w : V) → P w → Q w) → Q v → Visits more (Reached Q)
  reached_more P Q rest more k v before is on here =
      visits_more rest more k v (Reached P) (Reached Q) before is (reached_at Q k v (visits_next rest more k v (Reached P) before is) here)
      (λ q apart was w at. on w (was w at))

  pub reached_all : (P : V → Type 0) (rest : List (List ℕ × V)) → Visits rest (Reached P) → rest ≡ [] → (q : List ℕ) (v : V) → finite.get m q ≡ Some v → P v
  reached_all P rest all is q v at = visits_all rest (Reached P) all is q v at v at
