-- What the page of a map at a prefix tells: none where no key stands there, one key, or its keys, or the digests one index on.
use Rattle.std.proofs.Common.{◌≡◌, ◌⊎◌, inl, inr, ℕ, zero, suc, ◌+◌, ◌<◌, ◌≤◌, List, [], ◌∷◌, ◌++◌, length, Some, None, arith, refl, sym, ◌∙◌, ap, subst}
use Rattle.std.specs.Prelude.{Option}
use Rattle.std.proofs.Math.Nat.{eq-or-lt_of_le}
use Rattle.std.proofs.lemmas.Bool.{cases_lt}
use Rattle.hash_path.specs.Map.{walk_under, by_path}
use Rattle.hash_path.specs.Summary.{one_present, present, under_index}
use Rattle.causal_join.specs.OrMap.{FieldsValue}
use Rattle.wire_form.specs.Page.{EntryValue, OneKey, Keys, Branch}
use Rattle.prefix_digest.specs.Page.{named_entry, named_entries, page_under, page_at, digest_at}
use Rattle.prefix_digest.proofs.Parted.{page_none, page_one, page_list, page_branch}
use Rattle.sync_model.specs.Differ.{Held}
use Rattle.sync_model.proofs.Members.{In}

-- ---- children that are present

module _ {M : Type 0} where
  in_one : (i : ℕ) (o : Option M) (rest : List (ℕ × M)) (j : ℕ) (d : M) → In (one_present i o rest) (j, d) → ((i ≡ j) × (o ≡ Some d)) ⊎ In rest (j, d)
  in_one i None rest j d h = inr h
  in_one i (Some x) rest j d (inl e) = inl (ap (λ c. c.0) e, ap (λ c. Some c.1) e)
  in_one i (Some x) rest j d (inr h) = inr h

  pub in_present : (i n : ℕ) (f : ℕ → Option M) (j : ℕ) (d : M) → In (present i n f) (j, d) → (i ≤ j) × (j < i + n) × (f j ≡ Some d)
  in_present i zero f j d h = absurd h
  in_present i (suc n) f j d h =
      step (in_one i (f i) (present (suc i) n f) j d h) (in_present (suc i) n f j d)
    where
      step : ((i ≡ j) × (f i ≡ Some d)) ⊎ In (present (suc i) n f) (j, d) → (In (present (suc i) n f) (j, d) → (suc i ≤ j) × (j < suc i + n) × (f j ≡ Some d))
          → (i ≤ j) × (j < i + suc n) × (f j ≡ Some d)
      step (inl here) further = let same = here.0 in (omega (arith, same), omega (arith, same), ap f (sym here.0) ∙ here.1)
      step (inr there) further = let rest = further there in let low = rest.0 in let high = rest.1 in (omega (arith, low), omega (arith, high), rest.2)

  one_first : (i : ℕ) (o : Option M) (rest : List (ℕ × M)) (d : M) → o ≡ Some d → In (one_present i o rest) (i, d)
  one_first i o rest d e = subst (λ o. In (one_present i o rest) (i, d)) (sym e) (inl refl)

  one_behind : (i : ℕ) (o : Option M) (rest : List (ℕ × M)) (c : ℕ × M) → In rest c → In (one_present i o rest) c
  one_behind i None rest c h = h
  one_behind i (Some x) rest c h = inr h

  pub present_in : (i n : ℕ) (f : ℕ → Option M) (j : ℕ) (d : M) → i ≤ j → j < i + n → f j ≡ Some d → In (present i n f) (j, d)
  present_in i zero f j d low high e = absurd (omega (arith, low, high))
  present_in i (suc n) f j d low high e = step (eq-or-lt_of_le low) (λ less. present_in (suc i) n f j d less (omega (arith, high)) e)
    where
      step : (i ≡ j) ⊎ (i < j) → (i < j → In (present (suc i) n f) (j, d)) → In (present i (suc n) f) (j, d)
      step (inl same) further = subst (λ k. In (present i (suc n) f) (k, d)) same (one_first i (f i) (present (suc i) n f) d (ap f same ∙ e))
      step (inr less) further = one_behind i (f i) (present (suc i) n f) (j, d) (further less)

-- ---- a prefix past the last index has no page

page_past : (p : List ℕ) (height : ℕ) (es : List EntryValue) → height < length p → page_under p height es ≡ None
page_past [] height es h = absurd (omega (arith, h))
page_past (i ∷ p) zero es h = refl
page_past (i ∷ p) (suc below) es h = page_past p below (under_index i es) (omega (arith, h))

-- ---- by how much stands there

-- what the page at a prefix is
pub data Paged (hash_of : List ℕ → ℕ) (m : Held) (p : List ℕ) : Type 0 where
  Past : 7 < length p → page_at hash_of m p ≡ None → Paged hash_of m p
  Nothing : length p ≤ 7 → walk_under hash_of p m ≡ [] → page_at hash_of m p ≡ None → Paged hash_of m p
  One : length p ≤ 7 → (e : List ℕ × FieldsValue) → walk_under hash_of p m ≡ e ∷ [] → page_at hash_of m p ≡ Some (OneKey (named_entry e)) → Paged hash_of m p
  Several : length p ≡ 7 → 2 ≤ length (walk_under hash_of p m) → page_at hash_of m p ≡ Some (Keys (named_entries (walk_under hash_of p m))) → Paged hash_of m p
  Parted : length p < 7 → 2 ≤ length (walk_under hash_of p m) → page_at hash_of m p ≡ Some (Branch (present 0 32 (λ i. digest_at hash_of m (p ++ i ∷ []))))
      → Paged hash_of m p

module _ (hash_of : List ℕ → ℕ) (m : Held) (p : List ℕ) where
  by_walk : length p ≤ 7 → (es : List (List ℕ × FieldsValue)) → walk_under hash_of p m ≡ es → Paged hash_of m p
  by_walk short [] e = Nothing short e (page_none hash_of m p short e)
  by_walk short (x ∷ []) e = One short x e (page_one hash_of m p x.0 x.1 short e)
  by_walk short (x ∷ y ∷ es) e =
      step (eq-or-lt_of_le short)
    where
      several : 2 ≤ length (walk_under hash_of p m)
      several = subst (λ l. 2 ≤ length l) (sym e) (omega arith)

      step : (length p ≡ 7) ⊎ (length p < 7) → Paged hash_of m p
      step (inl deep) = Several deep several (page_list hash_of m p deep several)
      step (inr less) = Parted less several (page_branch hash_of m p less several)

  pub paged : Paged hash_of m p
  paged = step (cases_lt 7 (length p))
    where
      step : (7 < length p) ⊎ (length p ≤ 7) → Paged hash_of m p
      step (inr short) = by_walk short (walk_under hash_of p m) refl
      step (inl long) = Past long (page_past p 7 (named_entries (by_path hash_of m)) long)
