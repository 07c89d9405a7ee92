-- What the own map holds is known where all that was seen is.
use Rattle.std.proofs.Common.{◌≡◌, ℕ, List, [], ◌∷◌, ◌++◌, Bool, true, false, not, refl, sym, ◌∙◌, ap}
use Rattle.std.specs.Prelude.{◌&&◌, ◌||◌}
use Rattle.std.specs.List.{list_all}
use Rattle.dots.specs.Dot.{DotValue}
use Rattle.causal_context.specs.Context.{ContextValue, has, Includes}
use Rattle.causal_join.specs.OrMap.{FieldsValue}
use Rattle.hash_path.specs.Map.{walk_under}
use Rattle.sync_model.specs.Differ.{Held}
use Rattle.sync_model.specs.Fetch.{is_own, within_values, within_fields, within}
use Rattle.sync_model.specs.Laws.{KnowsEachDot}
use Rattle.sync_model.proofs.Members.{part_found}
use Rattle.sync_model.proofs.Fits.{all_pass}

wider : {X : Type 0} (s t : X → Bool) (xs : List X) → ((x : X) → s x ≡ true → t x ≡ true) → list_all s xs ≡ true → list_all t xs ≡ true
wider s t [] more h = refl
wider s t (x ∷ xs) more h = step (s x) refl h (wider s t xs more)
  where
    step : (b : Bool) → s x ≡ b → b && list_all s xs ≡ true → (list_all s xs ≡ true → list_all t xs ≡ true) → t x && list_all t xs ≡ true
    step true e h rest = ap (λ b. b && list_all t xs) (more x e) ∙ rest h
    step false e h rest = absurd cc

module _ (seen known : DotValue → Bool) (more : (d : DotValue) → seen d ≡ true → known d ≡ true) where
  fields_wider : (fs : FieldsValue) → within_fields seen fs ≡ true → within_fields known fs ≡ true
  fields_wider fs h = wider (λ f. within_values seen f.1) (λ f. within_values known f.1) fs (λ f. wider (λ v. seen v.0) (λ v. known v.0) f.1 (λ v. more v.0)) h

  part_known : (f : List ℕ → ℕ) (own : Held) (p : List ℕ) → KnowsEachDot seen own → within known (walk_under f p own) ≡ true
  part_known f own p h = all_pass (λ e. within_fields known e.1) (walk_under f p own) (λ e i. fields_wider e.1 (h e.0 e.1 (part_found f own p e.0 e.1 i).0))

  children_known : (f : List ℕ → ℕ) (own : Held) (p : List ℕ) (cs : List (ℕ × List ℕ)) → KnowsEachDot seen own
      → list_all (λ c. not (is_own f own p c) || within known (walk_under f (p ++ c.0 ∷ []) own)) cs ≡ true
  children_known f own p cs h =
      all_pass (λ c. not (is_own f own p c) || within known (walk_under f (p ++ c.0 ∷ []) own)) cs
      (λ c i. step (not (is_own f own p c)) (within known (walk_under f (p ++ c.0 ∷ []) own)) (part_known f own (p ++ c.0 ∷ []) h))
    where
      step : (a b : Bool) → b ≡ true → a || b ≡ true
      step true b e = refl
      step false b e = e

-- the same of contexts
includes_all : (seen known : ContextValue) → Includes known seen → (d : DotValue) → has seen d ≡ true → has known d ≡ true
includes_all seen known h d e = h d e

pub knows_part : (seen known : ContextValue) (f : List ℕ → ℕ) (own : Held) (p : List ℕ) → Includes known seen → KnowsEachDot (has seen) own
    → true ≡ within (has known) (walk_under f p own)
knows_part seen known f own p h inside = sym (part_known (has seen) (has known) (includes_all seen known h) f own p inside)

pub knows_children : (seen known : ContextValue) (f : List ℕ → ℕ) (own : Held) (p : List ℕ) (cs : List (ℕ × List ℕ)) → Includes known seen
    → KnowsEachDot (has seen) own
    → true ≡ list_all (λ c. not (is_own f own p c) || within (has known) (walk_under f (p ++ c.0 ∷ []) own)) cs
knows_children seen known f own p cs h inside = sym (children_known (has seen) (has known) (includes_all seen known h) f own p cs inside)
