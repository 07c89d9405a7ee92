-- The members of lists: at the head, in the tail, after a map or a filter.
use Rattle.std.proofs.Common.{◌≡◌, zero, suc, List, [], ◌∷◌, map, refl, sym, ap, ◌∙◌, subst, ◌⊎◌, inl, inr, Bool, true, false, cond, arith}
use Rattle.std.specs.Prelude.{Contains, filter}
use Rattle.std.proofs.lemmas.Bool.{false≢true}

module _ {X : Type 0} where
  pub nothing_in : {G : Type 0} (x : X) → Contains [] x → G
  nothing_in x (k, l, e) = absurd (omega arith)

  pub at_head : (x : X) (xs : List X) → Contains (x ∷ xs) x
  at_head x xs = (0, omega arith, refl)

  pub in_tail : (x : X) (xs : List X) (y : X) → Contains xs y → Contains (x ∷ xs) y
  in_tail x xs y (k, l, e) = (suc k, omega arith, e)

  pub head_or_tail : (x : X) (xs : List X) (y : X) → Contains (x ∷ xs) y → (x ≡ y) ⊎ Contains xs y
  head_or_tail x xs y (zero, l, e) = inl e
  head_or_tail x xs y (suc k, l, e) = inr (k, omega arith, e)

  pub at_same : (xs : List X) (x y : X) → x ≡ y → Contains xs x → Contains xs y
  at_same xs x y e h = let P : X → Type 0 = λ z. Contains xs z in subst P e h

module _ {X Y : Type 0} (f : X → Y) where
  pub in_map : (xs : List X) (x : X) → Contains xs x → Contains (map f xs) (f x)
  in_map [] x h = nothing_in x h
  in_map (y ∷ xs) x h =
      elim (head_or_tail y xs x h) [
        | inl e ↦ at_same (f y ∷ map f xs) (f y) (f x) (ap f e) (at_head (f y) (map f xs))
        | inr t ↦ in_tail (f y) (map f xs) (f x) (in_map xs x t)
      ]

  pub from_map : (xs : List X) (y : Y) → Contains (map f xs) y → (x : X) × Contains xs x × (f x ≡ y)
  from_map [] y h = nothing_in y h
  from_map (x ∷ xs) y h =
      elim (head_or_tail (f x) (map f xs) y h) [
        | inl e ↦ (x, at_head x xs, e)
        | inr t ↦ let found = from_map xs y t in (found.0, in_tail x xs found.0 found.1, found.2)
      ]

-- what a test leaves of x and the rest
kept_or_left : {X : Type 0} (b : Bool) (x : X) (xs : List X) (y : X) → Contains (cond b (x ∷ xs) xs) y → ((b ≡ true) × (x ≡ y)) ⊎ Contains xs y
kept_or_left true x xs y h = elim (head_or_tail x xs y h) [ inl e ↦ inl (refl, e) | inr t ↦ inr t ]
kept_or_left false x xs y h = inr h

kept : {X : Type 0} (b : Bool) (x : X) (xs : List X) → b ≡ true → Contains (cond b (x ∷ xs) xs) x
kept true x xs e = at_head x xs
kept false x xs e = absurd (false≢true e)

left : {X : Type 0} (b : Bool) (x : X) (xs : List X) (y : X) → Contains xs y → Contains (cond b (x ∷ xs) xs) y
left true x xs y h = in_tail x xs y h
left false x xs y h = h

module _ {X : Type 0} (test : X → Bool) where
  pub from_filter : (xs : List X) (y : X) → Contains (filter test xs) y → Contains xs y × (test y ≡ true)
  from_filter [] y h = nothing_in y h
  from_filter (x ∷ xs) y h =
      elim (kept_or_left (test x) x (filter test xs) y h) [
        | inl e ↦ (at_same (x ∷ xs) x y e.1 (at_head x xs), sym (ap test e.1) ∙ e.0)
        | inr t ↦ let found = from_filter xs y t in (in_tail x xs y found.0, found.1)
      ]

  pub in_filter : (xs : List X) (y : X) → Contains xs y → test y ≡ true → Contains (filter test xs) y
  in_filter [] y h e = nothing_in y h
  in_filter (x ∷ xs) y h e =
      elim (head_or_tail x xs y h) [
        | inl same ↦ at_same (filter test (x ∷ xs)) x y same (kept (test x) x (filter test xs) (ap test same ∙ e))
        | inr t ↦ left (test x) x (filter test xs) y (in_filter xs y t e)
      ]
