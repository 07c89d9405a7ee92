-- The values at unknown dots, one after another.
use Rattle.std.proofs.Common.{◌≡◌, ℕ, zero, suc, ◌+◌, ◌-◌, ◌<◌, ◌≤◌, List, [], ◌∷◌, ◌++◌, length, take, get_or, Bool, true, false, cond, map, refl, sym, ap}
use Rattle.std.proofs.Common.{◌∙◌, subst, arith, append_assoc}
use Rattle.std.specs.Prelude.{not}
use Rattle.std.specs.List.{filter}
use Rattle.std.specs.FinMap as finite
use Rattle.std.proofs.lemmas.List.{take_more, length-map}
use Rattle.dots.specs.Bytes.{bytes_cmp}
use Rattle.dots.specs.Dot.{DotValue}
use Rattle.causal_join.specs.OrMap.{ValuesValue, FieldsValue}
use Rattle.hash_path.specs.Word.{key_in}
use Rattle.hash_path.specs.Map.{by_key, by_path, walk_under}
use Rattle.hash_path.specs.Summary.{under_index, under_prefix}
use Rattle.hash_path.proofs.Parts.{walk_part}
use Rattle.prefix_digest.specs.Values.{unknown_in_values, unknown_in_fields, unknown_in, unknown_on_page, unknown_under, unknown_at}
use Rattle.prefix_digest.proofs.Parted.{no_entries}

module _ (known : DotValue → Bool) where
  unknown_more : (xs : ValuesValue) (v : DotValue × List ℕ) → unknown_in_values known (xs ++ v ∷ []) ≡ unknown_in_values known xs
      ++ cond (known v.0) [] (v.1 ∷ [])
  unknown_more [] v = last (known v.0)
    where
      last : (b : Bool) → map (λ (w : DotValue × List ℕ). w.1) (cond (not b) (v ∷ []) []) ≡ cond b [] (v.1 ∷ [])
      last true = refl
      last false = refl
  unknown_more (x ∷ xs) v = step (not (known x.0)) (unknown_more xs v)
    where
      step : (b : Bool) → unknown_in_values known (xs ++ v ∷ []) ≡ unknown_in_values known xs ++ cond (known v.0) [] (v.1 ∷ [])
          → map (λ (w : DotValue × List ℕ). w.1) (cond b (x ∷ filter (λ w. not (known w.0)) (xs ++ v ∷ [])) (filter (λ w. not (known w.0)) (xs ++ v ∷ [])))
          ≡ map (λ (w : DotValue × List ℕ). w.1) (cond b (x ∷ filter (λ w. not (known w.0)) xs) (filter (λ w. not (known w.0)) xs))
          ++ cond (known v.0) [] (v.1 ∷ [])
      step true rest = ap (λ l. x.1 ∷ l) rest
      step false rest = rest

  -- a value more, which is put there where its dot is unknown
  pub unknown_next : (old now new : List (List ℕ)) (xs : ValuesValue) (i : ℕ) (v : DotValue × List ℕ) → now ≡ old ++ unknown_in_values known (take i xs)
      → i < length xs → v ≡ get_or xs i v
      → new ≡ now ++ cond (known v.0) [] (v.1 ∷ []) → new ≡ old ++ unknown_in_values known (take (i + 1) xs)
  unknown_next old now new xs i v was h is put =
      let more : take (i + 1) xs ≡ take i xs ++ v ∷ [] = take_more xs i v h ∙ ap (λ y. take i xs ++ y ∷ []) (sym is) in
      put ∙ ap (λ l. l ++ cond (known v.0) [] (v.1 ∷ [])) was ∙ append_assoc old (unknown_in_values known (take i xs)) (cond (known v.0) [] (v.1 ∷ []))
      ∙ ap (λ l. old ++ l) (sym (unknown_more (take i xs) v) ∙ ap (unknown_in_values known) (sym more))

  -- ---- the values of the page at a prefix

  unkeyed : (height : ℕ) (es : List (List ℕ × FieldsValue)) → unknown_in known (by_key height es) ≡ unknown_in known es
  unkeyed height [] = refl
  unkeyed height (e ∷ es) = ap (λ l. unknown_in_fields known e.1 ++ l) (unkeyed height es)

  values_there : (p : List ℕ) (height : ℕ) (es : List (List ℕ × FieldsValue)) → length p ≤ height
      → unknown_under known p height es ≡ unknown_on_page known (height - length p) (under_prefix p es)
  values_there [] height es h = let same : height ≡ height - 0 = omega arith in ap (λ k. unknown_on_page known k es) same
  values_there (i ∷ p) zero es h = absurd (omega (arith, h))
  values_there (i ∷ p) (suc below) es h =
      let same : below - length p ≡ suc below - suc (length p) = omega arith in
      values_there p below (under_index i es) (omega (arith, h)) ∙ ap (λ k. unknown_on_page known k (under_prefix p (under_index i es))) same

  of_one : (height : ℕ) (es : List (List ℕ × FieldsValue)) → length es ≡ 1 → unknown_on_page known height es ≡ unknown_in known es
  of_one height [] h = absurd (omega (arith, h))
  of_one height (x ∷ []) h = refl
  of_one height (x ∷ y ∷ es) h = absurd (omega (arith, h))

  of_list : (es : List (List ℕ × FieldsValue)) → 2 ≤ length es → unknown_on_page known 0 es ≡ unknown_in known es
  of_list [] h = absurd (omega (arith, h))
  of_list (x ∷ []) h = absurd (omega (arith, h))
  of_list (x ∷ y ∷ es) h = refl

  of_branch : (below : ℕ) (es : List (List ℕ × FieldsValue)) → 2 ≤ length es → unknown_on_page known (suc below) es ≡ []
  of_branch below [] h = absurd (omega (arith, h))
  of_branch below (x ∷ []) h = absurd (omega (arith, h))
  of_branch below (x ∷ y ∷ es) h = refl

  module _ (f : List ℕ → ℕ) (m : finite.FinMap bytes_cmp FieldsValue) (p : List ℕ) where
    as_many : length p ≤ 7 → length (walk_under f p m) ≡ length (under_prefix p (by_path f m))
    as_many short = ap length (walk_part f p m short) ∙ length-map (under_prefix p (by_path f m)) (λ e. (key_in (7 - length p) e.0, e.1))

    as_walked : length p ≤ 7 → unknown_in known (under_prefix p (by_path f m)) ≡ unknown_in known (walk_under f p m)
    as_walked short = sym (unkeyed (7 - length p) (under_prefix p (by_path f m))) ∙ ap (unknown_in known) (sym (walk_part f p m short))

    pub values_of_none : length p ≤ 7 → walk_under f p m ≡ [] → unknown_at known f m p ≡ []
    values_of_none short none =
        values_there p 7 (by_path f m) short ∙ ap (unknown_on_page known (7 - length p))
        (no_entries (7 - length p) (under_prefix p (by_path f m)) (sym (walk_part f p m short) ∙ none))

    pub values_of_one : (k : List ℕ) (fields : FieldsValue) → length p ≤ 7 → walk_under f p m ≡ (k, fields) ∷ []
        → unknown_at known f m p ≡ unknown_in known (walk_under f p m)
    values_of_one k fields short one =
        values_there p 7 (by_path f m) short ∙ of_one (7 - length p) (under_prefix p (by_path f m)) (sym (as_many short) ∙ ap length one) ∙ as_walked short

    pub values_of_list : length p ≡ 7 → 2 ≤ length (walk_under f p m) → unknown_at known f m p ≡ unknown_in known (walk_under f p m)
    values_of_list deep several =
        let short : length p ≤ 7 = omega (arith, deep) in
        let low : 7 - length p ≡ 0 = omega (arith, deep) in
        let es = under_prefix p (by_path f m) in
        values_there p 7 (by_path f m) short ∙ ap (λ k. unknown_on_page known k es) low
        ∙ of_list es (subst (λ n. 2 ≤ n) (as_many short) several) ∙ as_walked short

    pub values_of_branch : length p < 7 → 2 ≤ length (walk_under f p m) → unknown_at known f m p ≡ []
    values_of_branch less several =
        let short : length p ≤ 7 = omega (arith, less) in
        let next : 7 - length p ≡ suc (7 - suc (length p)) = omega (arith, less) in
        let es = under_prefix p (by_path f m) in
        values_there p 7 (by_path f m) short ∙ ap (λ k. unknown_on_page known k es) next
        ∙ of_branch (7 - suc (length p)) es (subst (λ n. 2 ≤ n) (as_many short) several)
