-- A loop over the entries of a store that adds their dots to a context.
use Rattle.std.proofs.Common.{◌≡◌, ℕ, ◌+◌, ◌<◌, Bool, true, false, ◌||◌, List, length, get_or, refl, sym, ◌∙◌, subst, inl, inr, ⊎_elim}
use Rattle.std.specs.Prelude.{IsTrue, ◌⊎◌}
use Rattle.dots.specs.Dot.{DotValue, same_dot}
use Rattle.causal_context.proofs.Dots.{same_dot-refl, same_from_test}
use Rattle.ordered_list.proofs.Places.{items_more}

-- The context has what it had and the dots of the first items, and of other dots none but those that are held.
-- `Dots` says which are the dots of an item.
pub record Gathered {X : Type 0} (Held : DotValue → Type 0) (Dots : X → DotValue → Type 0) (old new : DotValue → Bool) (items : List X)
    (count : ℕ) : Type 0 where
  pub kept : (d : DotValue) → IsTrue (old d) → IsTrue (new d)
  pub only : (d : DotValue) → IsTrue (new d) → IsTrue (old d) ⊎ Held d
  pub added : (k : ℕ) (x : X) → k < count → (d : DotValue) → Dots (get_or items k x) d → IsTrue (new d)

-- the dots of one more item, which are held
pub gathered_more : {X : Type 0} (Held : DotValue → Type 0) (Dots : X → DotValue → Type 0) (old mid new : DotValue → Bool) (items : List X) (i : ℕ) (x : X)
    → Gathered Held Dots old mid items i
    → i < length items → x ≡ get_or items i x → ((d : DotValue) → IsTrue (mid d) → IsTrue (new d))
    → ((d : DotValue) → IsTrue (new d) → IsTrue (mid d) ⊎ Dots x d) → ((d : DotValue) → Dots x d → IsTrue (new d))
    → ((d : DotValue) → Dots x d → Held d) → Gathered Held Dots old new items (i + 1)
gathered_more Held Dots old mid new items i x before h is keeps only adds held = record {
  kept = λ d e. keeps d (before.kept d e);
  only = λ d e. ⊎_elim (before.only d) (λ of_x. inr (held d of_x)) (only d e);
  added = items_more (λ y. (d : DotValue) → Dots y d → IsTrue (new d)) items i x h is (λ k y l d e. keeps d (before.added k y l d e)) adds;
}

-- where nothing was there before, it has only dots that are held
pub gathered_only : {X : Type 0} (Held : DotValue → Type 0) (Dots : X → DotValue → Type 0) (old new : DotValue → Bool) (items : List X) (count : ℕ)
    → ((d : DotValue) → old d ≡ false)
    → Gathered Held Dots old new items count → (d : DotValue) → IsTrue (new d) → Held d
gathered_only Held Dots old new items count none all d h = ⊎_elim (λ was. absurd (cc (none d, was))) (λ held. held) (all.only d h)

-- ---- what adding one dot does
or_right : (a b : Bool) → IsTrue b → IsTrue (a || b)
or_right true b h = refl
or_right false b h = h

or_left : (a b : Bool) → IsTrue a → IsTrue (a || b)
or_left true b h = refl
or_left false b h = absurd (cc h)

or_cases : (a b : Bool) (P : Type 0) → IsTrue (a || b) → (IsTrue a → P) → (IsTrue b → P) → P
or_cases true b P h left right = left refl
or_cases false b P h left right = right h

module _ (dot : DotValue) (mid new : DotValue → Bool) (adds : (d : DotValue) → new d ≡ (same_dot dot d || mid d)) where
  pub add_keeps : (d : DotValue) → IsTrue (mid d) → IsTrue (new d)
  add_keeps d h = adds d ∙ or_right (same_dot dot d) (mid d) h

  pub add_only : (d : DotValue) → IsTrue (new d) → IsTrue (mid d) ⊎ (dot ≡ d)
  add_only d h = or_cases (same_dot dot d) (mid d) (IsTrue (mid d) ⊎ (dot ≡ d)) (sym (adds d) ∙ h) (λ e. inr (same_from_test dot d e)) (λ e. inl e)

  pub add_adds : (d : DotValue) → dot ≡ d → IsTrue (new d)
  add_adds d e = adds d ∙ or_left (same_dot dot d) (mid d) (subst (λ x. IsTrue (same_dot dot x)) e (same_dot-refl dot))

-- ---- what adding the dots of another set does
module _ (mid more new : DotValue → Bool) (both : (d : DotValue) → new d ≡ (mid d || more d)) where
  pub union_keeps : (d : DotValue) → IsTrue (mid d) → IsTrue (new d)
  union_keeps d h = both d ∙ or_left (mid d) (more d) h

  pub union_only : {Held : DotValue → Type 0} → ((d : DotValue) → IsTrue (more d) → Held d) → (d : DotValue) → IsTrue (new d) → IsTrue (mid d) ⊎ Held d
  union_only {Held = Held} only d h = or_cases (mid d) (more d) (IsTrue (mid d) ⊎ Held d) (sym (both d) ∙ h) (λ was. inl was) (λ came. inr (only d came))

  pub union_adds : {Held : DotValue → Type 0} → ((d : DotValue) → Held d → IsTrue (more d)) → (d : DotValue) → Held d → IsTrue (new d)
  union_adds adds d held = both d ∙ or_right (mid d) (more d) (adds d held)
