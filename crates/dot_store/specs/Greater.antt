-- The greater of two values by a total order whose equal values are the same is commutative, associative and
-- idempotent.
use Rattle.std.specs.Prelude.{◌≡◌, refl}
use Rattle.std.proofs.Common.{ap, sym, ◌∙◌}
use Rattle.std.specs.declared.cmp.Ordering.{Ordering}
use Rattle.std.specs.declared.cmp.Ordering.TheVariants.{Less, Equal, Greater}
use Rattle.std.specs.Cmp.{IsTotalOrder}
use Rattle.std.specs.Ordering.{ord_max, ordering_reverse}
use Rattle.std.proofs.lemmas.Cmp.{tied_itself}
use Rattle.std.proofs.lemmas.Map.Lookups.{CmpEqualImpliesEq}

module _ {V : Type 0} (cmp : V → V → Ordering) (total : IsTotalOrder cmp) (exact : CmpEqualImpliesEq cmp) where
  comm_by : (x y : V) (o : Ordering) → cmp y x ≡ o → ord_max cmp x y ≡ ord_max cmp y x
  comm_by x y Less h = let k : cmp x y ≡ Greater = total.antisymm x y ∙ ap ordering_reverse h in simp (h, k)
  comm_by x y Equal h = let e = exact y x h in rw e refl
  comm_by x y Greater h = let k : cmp x y ≡ Less = total.antisymm x y ∙ ap ordering_reverse h in simp (h, k)

  pub ord_max-comm : (x y : V) → ord_max cmp x y ≡ ord_max cmp y x
  ord_max-comm x y = comm_by x y (cmp y x) refl

  -- x at most y and y at most z, but z below x
  turned : (x y z : V) (p q : Ordering) → cmp y x ≡ p → cmp z y ≡ q → (p ≡ Less → ⊥) → (q ≡ Less → ⊥) → cmp z x ≡ Less → ⊥
  turned x y z Less q hp hq np nq h = np refl
  turned x y z p Less hp hq np nq h = nq refl
  turned x y z Equal q hp hq np nq h = nq (sym hq ∙ ap (cmp z) (exact y x hp) ∙ h)
  turned x y z Greater q hp hq np nq h = nq (sym hq ∙ total.trans z x y h (total.antisymm x y ∙ ap ordering_reverse hp))

  last_by : (x z : V) (o : Ordering) → cmp z x ≡ o → (cmp z x ≡ Less → ⊥) → z ≡ ord_max cmp x z
  last_by x z Less h n = absurd (n h)
  last_by x z Equal h n = simp h
  last_by x z Greater h n = simp h

  assoc_by : (x y z : V) (p q : Ordering) → cmp y x ≡ p → cmp z y ≡ q → ord_max cmp (ord_max cmp x y) z ≡ ord_max cmp x (ord_max cmp y z)
  assoc_by x y z Less Less hp hq = let t = total.trans z y x hq hp in simp (hp, hq, t)
  assoc_by x y z Less Equal hp hq = simp (hp, hq)
  assoc_by x y z Less Greater hp hq = simp (hp, hq)
  assoc_by x y z Equal Less hp hq = simp (hp, hq)
  assoc_by x y z Greater Less hp hq = simp (hp, hq)
  assoc_by x y z Equal Equal hp hq = simp (hp, hq) (last_by x z (cmp z x) refl (turned x y z Equal Equal hp hq (λ e. cc) (λ e. cc)))
  assoc_by x y z Equal Greater hp hq = simp (hp, hq) (last_by x z (cmp z x) refl (turned x y z Equal Greater hp hq (λ e. cc) (λ e. cc)))
  assoc_by x y z Greater Equal hp hq = simp (hp, hq) (last_by x z (cmp z x) refl (turned x y z Greater Equal hp hq (λ e. cc) (λ e. cc)))
  assoc_by x y z Greater Greater hp hq = simp (hp, hq) (last_by x z (cmp z x) refl (turned x y z Greater Greater hp hq (λ e. cc) (λ e. cc)))

  pub ord_max-assoc : (x y z : V) → ord_max cmp (ord_max cmp x y) z ≡ ord_max cmp x (ord_max cmp y z)
  ord_max-assoc x y z = assoc_by x y z (cmp y x) (cmp z y) refl refl

  pub ord_max-idem : (x : V) → ord_max cmp x x ≡ x
  ord_max-idem x = let k = tied_itself total x in simp k
