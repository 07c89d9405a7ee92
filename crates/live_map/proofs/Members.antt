-- Which items a set has, once one was put in or taken out.
use Rattle.std.proofs.Common.{◌≡◌, ◌<◌, List, [], ◌∷◌, Bool, true, false, cond, not, get_or, refl, sym, ap, subst, inl, inr, ⊎_elim, ◌∙◌, arith}
use Rattle.std.specs.Prelude.{IsTrue, is_some, ◌⊎◌, ◌||◌, ◌++◌, ℕ, length, slice_get, Option, Some, None}
use Rattle.std.specs.declared.cmp.Ordering.{Ordering}
use Rattle.std.specs.declared.cmp.Ordering.TheVariants.{Less, Equal, Greater}
use Rattle.std.specs.Cmp.{eq_by_cmp_equiv}
use Rattle.std.specs.Cmp.Lexicographic.{nat_list_cmp_total}
use Rattle.std.specs.Ordering.{eq_by_cmp, is_eq}
use Rattle.std.specs.List.{All, list_any, filter}
use Rattle.std.proofs.lemmas.List.Elements.{All-head, All-tail}
use Rattle.std.proofs.lemmas.List.Folds.{list_any-append}
use Rattle.std.proofs.lemmas.Map.Keys.{any_passes_from_place}
use Rattle.dots.specs.Bytes.{bytes_cmp}
use Rattle.live_map.specs.Index.{has_key}
use Rattle.trie_map.proofs.Visits.{Among}

pub equal : (o : Ordering) → is_eq o ≡ true → o ≡ Equal
equal Less e = absurd (cc e)
equal Equal e = refl
equal Greater e = absurd (cc e)

pub kept_by : (b was : Bool) → IsTrue was → IsTrue (cond b true was)
kept_by true was h = refl
kept_by false was h = h

module _ {K : Type 0} (cmp : K → K → Ordering) where
  abbrev pub member : List K → K → Bool
  member keys q = list_any (λ k. is_eq (cmp q k)) keys

  among_step : (q k : K) (keys : List K) (b : Bool) → is_eq (cmp q k) ≡ b → (IsTrue (member keys q) → (x : K) × Among keys x × (cmp q x ≡ Equal))
      → IsTrue (b || member keys q) → (x : K) × Among (k ∷ keys) x × (cmp q x ≡ Equal)
  among_step q k keys true e rest h = (k, inl refl, equal (cmp q k) e)
  among_step q k keys false e rest h = let there = rest h in (there.0, inr there.1, there.2)

  -- what is a member is one of the list
  pub among_member : (keys : List K) (q : K) → IsTrue (member keys q) → (x : K) × Among keys x × (cmp q x ≡ Equal)
  among_member [] q h = absurd (cc h)
  among_member (k ∷ keys) q h = among_step q k keys (is_eq (cmp q k)) refl (among_member keys q) h

  pub among_exact : ((x y : K) → cmp x y ≡ Equal → x ≡ y) → (keys : List K) (q : K) → IsTrue (member keys q) → Among keys q
  among_exact exact keys q h = let there = among_member keys q h in subst (Among keys) (sym (exact q there.0 there.2)) there.1

-- ---- items that pass a test
filtered : {K : Type 0} (p : K → Bool) (x : K) (xs : List K) (b : Bool) (y : K) → p y ≡ b → p x ≡ true → (y ≡ x) ⊎ Among (filter p xs) x
    → Among (cond b (y ∷ filter p xs) (filter p xs)) x
filtered p x xs true y e h there = there
filtered p x xs false y e h there = ⊎_elim (λ is. let same = ap p is in absurd (cc (e, h, same))) (λ rest. rest) there

pub among_filter : {K : Type 0} (p : K → Bool) (xs : List K) (x : K) → Among xs x → p x ≡ true → Among (filter p xs) x
among_filter p [] x h e = absurd h
among_filter p (y ∷ ys) x h e = filtered p x ys (p y) y refl e (⊎_elim (λ is. inl is) (λ rest. inr (among_filter p ys x rest e)) h)

-- ---- a list of one item has no other
pub one_among : {K : Type 0} (keys : List K) (k q : K) → length keys < 2 → k ≡ get_or keys 0 k → Among keys q → q ≡ k
one_among [] k q one first h = absurd h
one_among (x ∷ []) k q one first h = let same : x ≡ q = ⊎_elim (λ e. e) (λ no. absurd no) h in sym (first ∙ same)
one_among (x ∷ y ∷ rest) k q one first h = absurd (omega (arith, one))

pub not_so : (b : Bool) → false ≡ not b → IsTrue b
not_so true e = refl
not_so false e = absurd (cc e)

pub not_true : (b : Bool) → IsTrue (not b) → b ≡ false
not_true true t = absurd (cc t)
not_true false t = refl

-- ---- lists
pub any_more : {K : Type 0} (p : K → Bool) (xs ys : List K) → IsTrue (list_any p xs) → IsTrue (list_any p (xs ++ ys))
any_more p xs ys h = list_any-append p xs ys ∙ ap (λ b. b || list_any p ys) h

pub all_among : {K : Type 0} (P : K → Type 0) (xs : List K) → All P xs → (x : K) → Among xs x → P x
all_among P [] all x h = absurd h
all_among P (y ∷ ys) all x h = ⊎_elim (λ is. subst P is (All-head P y ys all)) (λ rest. all_among P ys (All-tail P y ys all) x rest) h

pub none_of : {V : Type 0} (o : Option V) → is_some o ≡ false → o ≡ None
none_of None e = refl
none_of (Some v) e = absurd (cc e)

pub has_last : (keys : List (List ℕ)) (n : ℕ) (o : Option (List ℕ)) (k key : List ℕ) → o ≡ slice_get keys n → o ≡ Some k → eq_by_cmp bytes_cmp k key ≡ true
    → IsTrue (has_key keys key)
has_last keys n o k key place is same =
    any_passes_from_place (λ x. is_eq (bytes_cmp key x)) keys n k (sym place ∙ is) ((eq_by_cmp_equiv nat_list_cmp_total).symm key k ∙ same)

pub or_second : (a b : Bool) → b ≡ true → IsTrue (a || b)
or_second true b h = refl
or_second false b h = h

pub any_pushed : {K : Type 0} (p : K → Bool) (xs : List K) (x : K) → p x ≡ true → IsTrue (list_any p (xs ++ (x ∷ [])))
any_pushed p xs x h = list_any-append p xs (x ∷ []) ∙ or_second (list_any p xs) (p x || false) (ap (λ b. b || false) h)
