-- The greater of two by a total order is commutative, associative and idempotent.
use Rattle.std.specs.declared.cmp.Ordering.{Ordering}
use Rattle.std.specs.declared.cmp.Ordering.TheVariants.{Less, Equal, Greater}
use Rattle.std.specs.Cmp.{IsTotalOrder}
use Rattle.std.specs.Cmp.Lexicographic.{nat_list_cmp_total, texts_ties, bytes_decides}
use Rattle.std.specs.Ordering.{ord_max, is_lt, is_gt, is_eq, ordering_reverse}
use Rattle.std.proofs.Common.{◌≡◌, ℕ, List, refl, sym, ap, ◌∙◌, true, false, cond, ◌⊎◌, inl, inr}
use Rattle.std.proofs.lemmas.Bool.{cases_Bool, false≢true}
use Rattle.std.proofs.lemmas.Cmp.{upto, tied_itself}
use Rattle.dots.specs.Bytes.{bytes_cmp}
use Rattle.op_model.specs.Meaning.{greater}

-- two texts of bytes that the order does not tell apart are one
pub bytes_exact : (x y : List ℕ) → bytes_cmp x y ≡ Equal → x ≡ y
bytes_exact x y e = (bytes_decides x y).0 (texts_ties x y ∙ ap is_eq e)

reversed : (o : Ordering) → is_lt (ordering_reverse o) ≡ is_gt o
reversed Less = refl
reversed Equal = refl
reversed Greater = refl

less : (o : Ordering) → is_lt o ≡ true → o ≡ Less
less Less e = refl
less Equal e = absurd (false≢true e)
less Greater e = absurd (false≢true e)

module _ {K : Type 0} (R : K → K → Ordering) (total : IsTotalOrder R) (exact : (x y : K) → R x y ≡ Equal → x ≡ y) where
  at_least : (x y : K) → is_lt (R y x) ≡ is_gt (R x y)
  at_least x y = ap is_lt (total.antisymm y x) ∙ reversed (R x y)

  below : (x y z : K) → is_lt (R y x) ≡ false → is_lt (R z y) ≡ false → is_lt (R z x) ≡ false
  below x y z h k = at_least x z ∙ upto total x y z (sym (at_least x y) ∙ h) (sym (at_least y z) ∙ k)

  above : (x y z : K) → is_lt (R z y) ≡ true → is_lt (R y x) ≡ true → is_lt (R z x) ≡ true
  above x y z h k = ap is_lt (total.trans z y x (less (R z y) h) (less (R y x) k))

  pub max_idem : (x : K) → ord_max R x x ≡ x
  max_idem x = ap (λ o. cond (is_lt o) x x) (tied_itself total x)

  pub max_comm : (x y : K) → ord_max R x y ≡ ord_max R y x
  max_comm x y = by (R x y) refl
    where
      by : (o : Ordering) → R x y ≡ o → ord_max R x y ≡ ord_max R y x
      by Less e = ap (λ o. cond (is_lt o) x y) (total.antisymm y x ∙ ap ordering_reverse e) ∙ sym (ap (λ o. cond (is_lt o) y x) e)
      by Greater e = ap (λ o. cond (is_lt o) x y) (total.antisymm y x ∙ ap ordering_reverse e) ∙ sym (ap (λ o. cond (is_lt o) y x) e)
      by Equal e = ap (λ o. cond (is_lt o) x y) (total.antisymm y x ∙ ap ordering_reverse e) ∙ sym (exact x y e) ∙ sym (ap (λ o. cond (is_lt o) y x) e)

  first : (x y : K) → is_lt (R y x) ≡ true → ord_max R x y ≡ x
  first x y e = ap (λ b. cond b x y) e

  second : (x y : K) → is_lt (R y x) ≡ false → ord_max R x y ≡ y
  second x y e = ap (λ b. cond b x y) e

  pub max_assoc : (x y z : K) → ord_max R (ord_max R x y) z ≡ ord_max R x (ord_max R y z)
  max_assoc x y z = by (cases_Bool (is_lt (R y x))) (cases_Bool (is_lt (R z y)))
    where
      by : (is_lt (R y x) ≡ true) ⊎ (is_lt (R y x) ≡ false) → (is_lt (R z y) ≡ true) ⊎ (is_lt (R z y) ≡ false)
          → ord_max R (ord_max R x y) z ≡ ord_max R x (ord_max R y z)
      by (inl a) (inl b) = ap (λ m. ord_max R m z) (first x y a) ∙ first x z (above x y z b a) ∙ sym (first x y a) ∙ sym (ap (ord_max R x) (first y z b))
      by (inl a) (inr b) = ap (λ m. ord_max R m z) (first x y a) ∙ sym (ap (ord_max R x) (second y z b))
      by (inr a) (inl b) = ap (λ m. ord_max R m z) (second x y a) ∙ first y z b ∙ sym (second x y a) ∙ sym (ap (ord_max R x) (first y z b))
      by (inr a) (inr b) = ap (λ m. ord_max R m z) (second x y a) ∙ second y z b ∙ sym (second x z (below x y z a b)) ∙ sym (ap (ord_max R x) (second y z b))

-- the greater of two values
pub greater-comm : (x y : List ℕ) → greater x y ≡ greater y x
greater-comm = max_comm bytes_cmp nat_list_cmp_total bytes_exact

pub greater-idem : (x : List ℕ) → greater x x ≡ x
greater-idem = max_idem bytes_cmp nat_list_cmp_total bytes_exact

pub greater-assoc : (x y z : List ℕ) → greater (greater x y) z ≡ greater x (greater y z)
greater-assoc = max_assoc bytes_cmp nat_list_cmp_total bytes_exact
