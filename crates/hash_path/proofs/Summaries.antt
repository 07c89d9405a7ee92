-- The summary of a branch is made of the summaries of its children, and that at a prefix is found in one child.
use Rattle.std.proofs.Common.{◌≡◌, ℕ, zero, suc, ◌+◌, ◌-◌, ◌<◌, ◌≤◌, List, [], ◌∷◌, ◌++◌, length, false, cond, nat_eq, Some, None, arith, refl, sym, ◌∙◌, ap}
use Rattle.std.proofs.Common.{subst, append-nil, eq-eqb, ne_eqb}
use Rattle.std.specs.declared.option.Option.{Option}
use Rattle.std.specs.declared.cmp.Ordering.{Ordering}
use Rattle.std.specs.declared.cmp.Ordering.TheVariants.{Less, Equal, Greater}
use Rattle.std.specs.Ordering.{nat_cmp}
use Rattle.std.specs.FinMap.Entries.{by_order}
use Rattle.hash_path.specs.Fan.{under, fan, Rise, at}
use Rattle.hash_path.specs.Map.{by_key}
use Rattle.hash_path.specs.Summary.{SummaryCalls, under_index, under_prefix, one_present, present, summary_of, summary_at, sums}
use Rattle.hash_path.proofs.Orders.{less, same, more, is_more}

module _ {V : Type 0} where
  -- ---- the entries at an index of a branch are those of its child

  under_same : (i : ℕ) (es rest : List (List ℕ × V)) → under_index i (under i es ++ rest) ≡ es ++ under_index i rest
  under_same i [] rest = refl
  under_same i (e ∷ es) rest =
      ap (λ b. cond b (e ∷ under_index i (under i es ++ rest)) (under_index i (under i es ++ rest))) (eq-eqb i i refl) ∙ ap (λ l. e ∷ l) (under_same i es rest)

  under_other : (i j : ℕ) (es rest : List (List ℕ × V)) → nat_eq i j ≡ false → under_index i (under j es ++ rest) ≡ under_index i rest
  under_other i j [] rest h = refl
  under_other i j (e ∷ es) rest h =
      ap (λ b. cond b (e ∷ under_index i (under j es ++ rest)) (under_index i (under j es ++ rest))) h ∙ under_other i j es rest h

  -- an index below all is not there
  absent : (low i : ℕ) (cs : List (ℕ × List (List ℕ × V))) → Rise low cs → i < low → under_index i (fan cs) ≡ []
  absent low i [] r h = refl
  absent low i (c ∷ cs) r h =
      let first = r.0 in
      let next : i < suc c.0 = omega arith in
      under_other i c.0 c.1 (fan cs) (ne_eqb i c.0 (λ e. absurd (omega arith))) ∙ absent (suc c.0) i cs r.2 next

  below_step : (i : ℕ) (c : ℕ × List (List ℕ × V)) (cs : List (ℕ × List (List ℕ × V))) (o : Ordering) → nat_cmp i c.0 ≡ o → Rise (suc c.0) cs
      → under_index i (fan cs) ≡ at i cs → under_index i (under c.0 c.1 ++ fan cs) ≡ by_order o [] c.1 (at i cs)
  below_step i c cs Less p r rest =
      let h = less i c.0 p in
      let next : i < suc c.0 = omega arith in
      under_other i c.0 c.1 (fan cs) (ne_eqb i c.0 (λ e. absurd (omega arith))) ∙ absent (suc c.0) i cs r next
  below_step i c cs Equal p r rest =
      let e = same i c.0 p in
      let next : i < suc c.0 = omega arith in
      ap (λ j. under_index i (under j c.1 ++ fan cs)) (sym e) ∙ under_same i c.1 (fan cs) ∙ ap (λ l. c.1 ++ l) (absent (suc c.0) i cs r next) ∙ append-nil c.1
  below_step i c cs Greater p r rest =
      let h = more i c.0 p in
      under_other i c.0 c.1 (fan cs) (ne_eqb i c.0 (λ e. absurd (omega arith))) ∙ rest

  pub under_index-fan : (low i : ℕ) (cs : List (ℕ × List (List ℕ × V))) → Rise low cs → under_index i (fan cs) ≡ at i cs
  under_index-fan low i [] r = refl
  under_index-fan low i (c ∷ cs) r = below_step i c cs (nat_cmp i c.0) refl r.2 (under_index-fan (suc c.0) i cs r.2)

module _ {M : Type 0} where
  -- ---- what is present

  present_agree : (i n : ℕ) (f g : ℕ → Option M) → ((j : ℕ) → i ≤ j → f j ≡ g j) → present i n f ≡ present i n g
  present_agree i zero f g h = refl
  present_agree i (suc n) f g h =
      let rest = present_agree (suc i) n f g (λ j l. h j (omega arith)) in
      let first = h i (omega arith) in
      λ t. one_present i (first t) (rest t)

module _ {V M : Type 0} (s : List (List ℕ × V) → Option M) (none_is : s [] ≡ None) where
  present_empty : (i n : ℕ) → present i n (λ j. s []) ≡ []
  present_empty i zero = refl
  present_empty i (suc n) = ap (λ r. one_present i r (present (suc i) n (λ j. s []))) none_is ∙ present_empty (suc i) n

  present_step : (i n : ℕ) (c : ℕ × List (List ℕ × V)) (cs : List (ℕ × List (List ℕ × V))) (o : Ordering) → nat_cmp i c.0 ≡ o → Rise i (c ∷ cs)
      → (Rise (suc i) (c ∷ cs) → present (suc i) n (λ j. s (at j (c ∷ cs))) ≡ sums s (c ∷ cs))
      → (Rise (suc i) cs → present (suc i) n (λ j. s (at j cs)) ≡ sums s cs)
      → one_present i (s (by_order o [] c.1 (at i cs))) (present (suc i) n (λ j. s (at j (c ∷ cs)))) ≡ sums s (c ∷ cs)
  present_step i n c cs Less p r all rest =
      let h = less i c.0 p in
      ap (λ x. one_present i x (present (suc i) n (λ j. s (at j (c ∷ cs))))) none_is ∙ all (omega arith, r.1, r.2)
  present_step i n c cs Equal p r all rest =
      let e = same i c.0 p in
      let rises : Rise (suc i) cs = subst (λ k. Rise (suc k) cs) (sym e) r.2 in
      let later : present (suc i) n (λ j. s (at j (c ∷ cs))) ≡ sums s cs =
      present_agree (suc i) n (λ j. s (at j (c ∷ cs))) (λ j. s (at j cs)) (λ j l. ap (λ o. s (by_order o [] c.1 (at j cs))) (is_more j c.0 (omega (arith, e))))
      ∙ rest rises in
      λ t. one_present (e t) (s c.1) (later t)
  present_step i n c cs Greater p r all rest = let h = more i c.0 p in let l = r.0 in absurd (omega arith)

  pub present_is : (i n : ℕ) (cs : List (ℕ × List (List ℕ × V))) → i + n ≡ 32 → Rise i cs → present i n (λ j. s (at j cs)) ≡ sums s cs
  present_is i n [] e r = present_empty i n
  present_is i zero (c ∷ cs) e r = let l = r.0 in let h = r.1 in absurd (omega arith)
  present_is i (suc n) (c ∷ cs) e r =
      present_step i n c cs (nat_cmp i c.0) refl r (present_is (suc i) n (c ∷ cs) (omega arith)) (present_is (suc i) n cs (omega arith))

module _ {V M : Type 0} (c : SummaryCalls V M) where
  several : (below : ℕ) (es : List (List ℕ × V)) → 2 ≤ length es → summary_of c (suc below) es
      ≡ Some (c.branch (present 0 32 (λ i. summary_of c below (under_index i es))))
  several below [] h = absurd (omega arith)
  several below (e ∷ []) h = absurd (omega arith)
  several below (e ∷ f ∷ es) h = refl

  pub summary_branch : (below : ℕ) (cs : List (ℕ × List (List ℕ × V))) → Rise 0 cs → 2 ≤ length (fan cs)
      → summary_of c (suc below) (fan cs) ≡ Some (c.branch (sums (summary_of c below) cs))
  summary_branch below cs r h =
      several below (fan cs) h
      ∙ ap (λ l. Some (c.branch l))
      (present_agree 0 32 (λ i. summary_of c below (under_index i (fan cs))) (λ i. summary_of c below (at i cs))
      (λ i l. ap (summary_of c below) (under_index-fan 0 i cs r))
      ∙ present_is (summary_of c below) refl 0 32 cs refl r)

  pub summary_list : (es : List (List ℕ × V)) → 2 ≤ length es → summary_of c 0 es ≡ Some (c.list (by_key 0 es))
  summary_list [] h = absurd (omega arith)
  summary_list (e ∷ []) h = absurd (omega arith)
  summary_list (e ∷ f ∷ es) h = refl

  -- ---- at a prefix

  pub summary_none : (p : List ℕ) (height : ℕ) → summary_at c p height [] ≡ None
  summary_none [] height = refl
  summary_none (i ∷ p) zero = refl
  summary_none (i ∷ p) (suc below) = summary_none p below

  pub summary_child : (i : ℕ) (p : List ℕ) (below : ℕ) (cs : List (ℕ × List (List ℕ × V))) → Rise 0 cs
      → summary_at c (i ∷ p) (suc below) (fan cs) ≡ summary_at c p below (at i cs)
  summary_child i p below cs r = ap (summary_at c p below) (under_index-fan 0 i cs r)

  -- a summary at a prefix is that of the entries there
  pub summary_there : (p : List ℕ) (height : ℕ) (es : List (List ℕ × V)) → length p ≤ height
      → summary_at c p height es ≡ summary_of c (height - length p) (under_prefix p es)
  summary_there [] height es h = let same : height ≡ height - 0 = omega arith in ap (λ k. summary_of c k es) same
  summary_there (i ∷ p) zero es h = absurd (omega arith)
  summary_there (i ∷ p) (suc below) es h =
      let same : below - length p ≡ suc below - suc (length p) = omega arith in
      summary_there p below (under_index i es) (omega arith) ∙ ap (λ k. summary_of c k (under_prefix p (under_index i es))) same

module _ {V : Type 0} where
  pub under_none : (p : List ℕ) → under_prefix {V = V} p [] ≡ []
  under_none [] = refl
  under_none (i ∷ p) = under_none p

  pub under_child : (i : ℕ) (p : List ℕ) (cs : List (ℕ × List (List ℕ × V))) → Rise 0 cs → under_prefix (i ∷ p) (fan cs) ≡ under_prefix p (at i cs)
  under_child i p cs r = ap (under_prefix p) (under_index-fan 0 i cs r)

-- ---- one child after another

module _ {M : Type 0} where
  append_step : (i : ℕ) (r : Option M) (ks rest : List (ℕ × M)) (one : ℕ × M) → ks ≡ rest ++ one ∷ [] → one_present i r ks ≡ one_present i r rest ++ one ∷ []
  append_step i None ks rest one e = e
  append_step i (Some y) ks rest one e = ap (λ l. (i, y) ∷ l) e

module _ {V M : Type 0} where
  pub sums_append : (s : List (List ℕ × V) → Option M) (cs : List (ℕ × List (List ℕ × V))) (k : ℕ × List (List ℕ × V)) (m : M) → s k.1 ≡ Some m
      → sums s (cs ++ k ∷ []) ≡ sums s cs ++ (k.0, m) ∷ []
  sums_append s [] k m e = ap (λ x. one_present k.0 x []) e
  sums_append s (x ∷ cs) k m e = append_step x.0 (s x.1) (sums s (cs ++ k ∷ [])) (sums s cs) (k.0, m) (sums_append s cs k m e)
