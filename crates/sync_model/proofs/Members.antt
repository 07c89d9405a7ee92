-- What a list has, and what the part of a map's walk under a prefix has.
use Rattle.std.proofs.Common.{◌≡◌, ◌⊎◌, inl, inr, ℕ, zero, suc, ◌<◌, List, [], ◌∷◌, map, length, get_or, Bool, true, false, cond, Some, arith, refl, sym, ◌∙◌}
use Rattle.std.proofs.Common.{ap, subst}
use Rattle.std.specs.List.{All, Contains, filter}
use Rattle.std.specs.FinMap as finite
use Rattle.dots.specs.Bytes.{bytes_cmp}
use Rattle.hash_path.specs.Word.{begins}
use Rattle.hash_path.specs.Map.{path, walk, walk_under}
use Rattle.hash_path.proofs.Parts.{walk_found, walk_has}

-- x is an element of the list
abbrev pub In : {X : Type 0} → List X → X → Type 0
In [] x = ⊥
In (y ∷ ys) x = (y ≡ x) ⊎ In ys x

module _ {X : Type 0} where
  pub In-get : (xs : List X) (k : ℕ) (x : X) → k < length xs → get_or xs k x ≡ x → In xs x
  In-get [] k x l e = absurd (omega (arith, l))
  In-get (y ∷ ys) zero x l e = inl e
  In-get (y ∷ ys) (suc k) x l e = inr (In-get ys k x (omega (arith, l)) e)

  pub In-Contains : (xs : List X) (x : X) → Contains xs x → In xs x
  In-Contains xs x h = In-get xs h.0 x h.1 h.2

  pub Contains-In : (xs : List X) (x : X) → In xs x → Contains xs x
  Contains-In [] x h = absurd h
  Contains-In (y ∷ ys) x (inl e) = (0, omega arith, e)
  Contains-In (y ∷ ys) x (inr h) = let rest = Contains-In ys x h in let less = rest.1 in (suc rest.0, omega (arith, less), rest.2)

  pub In-All : (P : X → Type 0) (xs : List X) (x : X) → All P xs → In xs x → P x
  In-All P [] x all h = absurd h
  In-All P (y ∷ ys) x all (inl e) = subst P e (all 0 y (omega arith))
  In-All P (y ∷ ys) x all (inr h) = In-All P ys x (λ k d l. all (suc k) d (omega (arith, l))) h

  pub In-filter : (t : X → Bool) (xs : List X) (x : X) → In (filter t xs) x → In xs x × (t x ≡ true)
  In-filter t [] x h = absurd h
  In-filter t (y ∷ ys) x h = step (t y) refl h (In-filter t ys x)
    where
      step : (b : Bool) → t y ≡ b → In (cond b (y ∷ filter t ys) (filter t ys)) x → (In (filter t ys) x → In ys x × (t x ≡ true)) → In (y ∷ ys) x × (t x ≡ true)
      step true e (inl same) further = (inl same, ap t (sym same) ∙ e)
      step true e (inr h) further = let rest = further h in (inr rest.0, rest.1)
      step false e h further = let rest = further h in (inr rest.0, rest.1)

  pub filter-In : (t : X → Bool) (xs : List X) (x : X) → In xs x → t x ≡ true → In (filter t xs) x
  filter-In t [] x h e = absurd h
  filter-In t (y ∷ ys) x (inl same) e = subst (λ b. In (cond b (y ∷ filter t ys) (filter t ys)) x) (sym (ap t same ∙ e)) (inl same)
  filter-In t (y ∷ ys) x (inr h) e = step (t y) (filter-In t ys x h e)
    where
      step : (b : Bool) → In (filter t ys) x → In (cond b (y ∷ filter t ys) (filter t ys)) x
      step true rest = inr rest
      step false rest = rest

pub In-map : {X Y : Type 0} (f : X → Y) (xs : List X) (x : X) → In xs x → In (map f xs) (f x)
In-map f [] x h = absurd h
In-map f (y ∷ ys) x (inl e) = inl (ap f e)
In-map f (y ∷ ys) x (inr h) = inr (In-map f ys x h)

pub In-mapped : {X Y : Type 0} (f : X → Y) (xs : List X) (y : Y) → In (map f xs) y → (x : X) × In xs x × (f x ≡ y)
In-mapped f [] y h = absurd h
In-mapped f (x ∷ xs) y (inl e) = (x, inl refl, e)
In-mapped f (x ∷ xs) y (inr h) = let rest = In-mapped f xs y h in (rest.0, inr rest.1, rest.2)

-- ---- the part of the walk of a map under a prefix has just its entries there

module _ {V : Type 0} (hash_of : List ℕ → ℕ) (m : finite.FinMap bytes_cmp V) (p : List ℕ) where
  pub part_has : (key : List ℕ) (v : V) → finite.get m key ≡ Some v → begins p (path hash_of key) ≡ true → In (walk_under hash_of p m) (key, v)
  part_has key v e b = filter-In (λ e. begins p (path hash_of e.0)) (walk hash_of m) (key, v)
      (In-Contains (walk hash_of m) (key, v) (walk_has hash_of m key v e)) b

  pub part_found : (key : List ℕ) (v : V) → In (walk_under hash_of p m) (key, v) → (finite.get m key ≡ Some v) × (begins p (path hash_of key) ≡ true)
  part_found key v h =
      let both = In-filter (λ e. begins p (path hash_of e.0)) (walk hash_of m) (key, v) h in
      (In-All (λ e. finite.get m e.0 ≡ Some e.1) (walk hash_of m) (key, v) (walk_found hash_of m) both.0, both.1)
