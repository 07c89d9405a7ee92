-- No index of a path is greater than the greatest that a child can have there.
use Rattle.std.proofs.Common.{◌≡◌, ℕ, zero, suc, ◌+◌, ◌^◌, ◌<◌, ◌≤◌, List, [], ◌∷◌, length, drop, get_or, Bool, true, false, cond, nat_eq, arith, refl, sym}
use Rattle.std.proofs.Common.{subst, eqb-true}
use Rattle.hash_path.specs.Path.{last_index}
use Rattle.hash_path.specs.Word.{word}
use Rattle.hash_path.specs.Map.{key_of, HashedBy}
use Rattle.hash_path.specs.Summary.{under_index, under_prefix}

-- a word of which so many indices were gone through already
abbrev IsBounded : ℕ → List ℕ → Type 0
IsBounded gone w = (d : ℕ) → d + gone < 7 → get_or w d 0 ≤ last_index (d + gone)

at_next : (w : List ℕ) (d : ℕ) → get_or (drop 1 w) d 0 ≡ get_or w (suc d) 0
at_next [] d = refl
at_next (x ∷ w) d = refl

one_gone : (gone : ℕ) (w : List ℕ) → IsBounded gone w → IsBounded (suc gone) (drop 1 w)
one_gone gone w h d less =
    let same : suc d + gone ≡ d + suc gone = omega arith in
    let there : get_or w (suc d) 0 ≤ last_index (d + suc gone) = subst (λ k. get_or w (suc d) 0 ≤ last_index k) same (h (suc d) (omega (arith, less))) in
    subst (λ x. x ≤ last_index (d + suc gone)) (sym (at_next w d)) there

path_bounded : (hash : ℕ) (key : List ℕ) → hash < 2 ^ 32 → IsBounded 0 (word 7 hash key)
path_bounded hash key h zero less = omega arith
path_bounded hash key h (suc zero) less = omega arith
path_bounded hash key h (suc (suc zero)) less = omega arith
path_bounded hash key h (suc (suc (suc zero))) less = omega arith
path_bounded hash key h (suc (suc (suc (suc zero)))) less = omega arith
path_bounded hash key h (suc (suc (suc (suc (suc zero))))) less = omega arith
path_bounded hash key h (suc (suc (suc (suc (suc (suc zero)))))) less = omega (arith, h)
path_bounded hash key h (suc (suc (suc (suc (suc (suc (suc d))))))) less = absurd (omega (arith, less))

module _ {V : Type 0} where
  abbrev AreBounded : ℕ → List (List ℕ × V) → Type 0
  AreBounded gone [] = Unit {0}
  AreBounded gone (e ∷ es) = IsBounded gone e.0 × AreBounded gone es

  all_bounded : (f : List ℕ → ℕ) → ((key : List ℕ) → f key < 2 ^ 32) → (es : List (List ℕ × V)) → HashedBy f es → AreBounded 0 es
  all_bounded f h [] hashed = tt
  all_bounded f h (e ∷ es) hashed = (
    subst (IsBounded 0) (sym hashed.0) (path_bounded (f (key_of e.0)) (key_of e.0) (h (key_of e.0))),
    all_bounded f h es hashed.1,
  )

  kept_bounded : (gone i : ℕ) (es : List (List ℕ × V)) → AreBounded gone es → AreBounded (suc gone) (under_index i es)
  kept_bounded gone i [] h = tt
  kept_bounded gone i (e ∷ es) h = step (nat_eq i (get_or e.0 0 0)) (kept_bounded gone i es h.1)
    where
      step : (b : Bool) → AreBounded (suc gone) (under_index i es) → AreBounded (suc gone) (cond b ((drop 1 e.0, e.1) ∷ under_index i es) (under_index i es))
      step true rest = (one_gone gone e.0 h.0, rest)
      step false rest = rest

  nothing_past : (gone i : ℕ) (es : List (List ℕ × V)) → gone < 7 → last_index gone < i → AreBounded gone es → under_index i es ≡ []
  nothing_past gone i [] less past h = refl
  nothing_past gone i (e ∷ es) less past h = step (nat_eq i (get_or e.0 0 0)) refl (nothing_past gone i es less past h.1)
    where
      step : (b : Bool) → nat_eq i (get_or e.0 0 0) ≡ b → under_index i es ≡ [] → cond b ((drop 1 e.0, e.1) ∷ under_index i es) (under_index i es) ≡ []
      step true t rest =
          let is = eqb-true i (get_or e.0 0 0) t in
          let same : 0 + gone ≡ gone = omega arith in
          let bound : get_or e.0 0 0 ≤ last_index gone = subst (λ k. get_or e.0 0 0 ≤ last_index k) same (h.0 0 (omega (arith, less))) in
          absurd (omega (arith, is, bound, past))
      step false t rest = rest

  under_past : (p : List ℕ) (gone i : ℕ) (es : List (List ℕ × V)) → length p + gone < 7 → last_index (length p + gone) < i → AreBounded gone es
      → under_index i (under_prefix p es) ≡ []
  under_past [] gone i es less past h =
      let same : 0 + gone ≡ gone = omega arith in
      nothing_past gone i es (omega (arith, less)) (subst (λ k. last_index k < i) same past) h
  under_past (j ∷ p) gone i es less past h =
      let same : suc (length p) + gone ≡ length p + suc gone = omega arith in
      under_past p (suc gone) i (under_index j es) (omega (arith, less)) (subst (λ k. last_index k < i) same past) (kept_bounded gone j es h)

  -- no entry stands at an index that a child there cannot have
  pub none_past : (f : List ℕ → ℕ) → ((key : List ℕ) → f key < 2 ^ 32) → (p : List ℕ) (i : ℕ) (es : List (List ℕ × V)) → HashedBy f es → length p < 7
      → last_index (length p) < i
      → under_index i (under_prefix p es) ≡ []
  none_past f h p i es hashed less past =
      let same : length p ≡ length p + 0 = omega arith in
      under_past p 0 i es (omega (arith, less)) (subst (λ k. last_index k < i) same past) (all_bounded f h es hashed)
