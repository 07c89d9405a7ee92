-- What is made of the parts of a page ascends as they do.
use Rattle.std.proofs.Common.{◌≡◌, ◌⊎◌, inl, inr, ℕ, List, [], ◌∷◌, Some, sym, subst}
use Rattle.std.specs.List.{AllByRecursion}
use Rattle.std.specs.List.Sorted.{IsStrictlySortedBy}
use Rattle.std.specs.Map.{keys_of}
use Rattle.std.specs.declared.cmp.Ordering.{Ordering}
use Rattle.std.specs.declared.cmp.Ordering.TheVariants.{Less}
use Rattle.sync_model.specs.Filled.{Made}

module _ {K X : Type 0} (Good : X → Type 0) where
  -- each of them is good
  abbrev pub Each : List (K × X) → Type 0
  Each [] = Unit {0}
  Each (x ∷ xs) = Good x.1 × Each xs

module _ {K N X : Type 0} (Good : X → Type 0) where
  -- the first part made something under its key, or nothing, and the rest was made of the others
  abbrev pub Picked : (List (K × N) → List (List ℕ) → Made (List (K × X))) → K × N → List (K × N) → List (K × X) → List (List ℕ) → Type 0
  Picked fill n ns xs left = (mid : List (List ℕ)) × (ws : List (K × X)) × (fill ns mid ≡ Some (ws, left))
      × ((xs ≡ ws) ⊎ ((x : X) × Good x × (xs ≡ (n.0, x) ∷ ws)))

  module _ (fill : List (K × N) → List (List ℕ) → Made (List (K × X)))
      (ended : (sent left : List (List ℕ)) (xs : List (K × X)) → fill [] sent ≡ Some (xs, left) → xs ≡ [])
      (picked : (n : K × N) (ns : List (K × N)) (sent left : List (List ℕ)) (xs : List (K × X)) → fill (n ∷ ns) sent ≡ Some (
        xs,
        left,
      ) → Picked fill n ns xs left) where
    all_keys : (P : K → Type 0) (ns : List (K × N)) (sent left : List (List ℕ)) (xs : List (K × X)) → AllByRecursion P (keys_of ns)
        → fill ns sent ≡ Some (xs, left) → AllByRecursion P (keys_of xs)
    all_keys P [] sent left xs all e = subst (λ l. AllByRecursion P (keys_of l)) (sym (ended sent left xs e)) tt
    all_keys P (n ∷ ns) sent left xs all e = let h = picked n ns sent left xs e in step h.3 (all_keys P ns h.0 left h.1 all.1 h.2)
      where
        step : {ws : List (K × X)} → (xs ≡ ws) ⊎ ((x : X) × Good x × (xs ≡ (n.0, x) ∷ ws)) → AllByRecursion P (keys_of ws) → AllByRecursion P (keys_of xs)
        step (inl same) rest = subst (λ l. AllByRecursion P (keys_of l)) (sym same) rest
        step (inr (x, good, is)) rest = subst (λ l. AllByRecursion P (keys_of l)) (sym is) (all.0, rest)

    pub keys_ascend : (cmp : K → K → Ordering) (ns : List (K × N)) (sent left : List (List ℕ)) (xs : List (K × X)) → IsStrictlySortedBy cmp (keys_of ns)
        → fill ns sent ≡ Some (xs, left)
        → IsStrictlySortedBy cmp (keys_of xs)
    unfolding IsStrictlySortedBy
    keys_ascend cmp [] sent left xs s e = subst (λ l. IsStrictlySortedBy cmp (keys_of l)) (sym (ended sent left xs e)) tt
    keys_ascend cmp (n ∷ ns) sent left xs s e =
        let h = picked n ns sent left xs e in
        step h.3 (keys_ascend cmp ns h.0 left h.1 s.1 h.2) (all_keys (λ y. cmp n.0 y ≡ Less) ns h.0 left h.1 s.0 h.2)
      where
        step : {ws : List (K × X)} → (xs ≡ ws) ⊎ ((x : X) × Good x × (xs ≡ (n.0, x) ∷ ws)) → IsStrictlySortedBy cmp (keys_of ws)
            → AllByRecursion (λ y. cmp n.0 y ≡ Less) (keys_of ws) → IsStrictlySortedBy cmp (keys_of xs)
        step (inl same) rest above = subst (λ l. IsStrictlySortedBy cmp (keys_of l)) (sym same) rest
        step (inr (x, good, is)) rest above = subst (λ l. IsStrictlySortedBy cmp (keys_of l)) (sym is) (above, rest)

    pub each_good : (ns : List (K × N)) (sent left : List (List ℕ)) (xs : List (K × X)) → fill ns sent ≡ Some (xs, left) → Each Good xs
    each_good [] sent left xs e = subst (Each Good) (sym (ended sent left xs e)) tt
    each_good (n ∷ ns) sent left xs e = let h = picked n ns sent left xs e in step h.3 (each_good ns h.0 left h.1 h.2)
      where
        step : {ws : List (K × X)} → (xs ≡ ws) ⊎ ((x : X) × Good x × (xs ≡ (n.0, x) ∷ ws)) → Each Good ws → Each Good xs
        step (inl same) rest = subst (Each Good) (sym same) rest
        step (inr (x, good, is)) rest = subst (Each Good) (sym is) (good, rest)
