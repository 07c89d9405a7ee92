-- Cutting a word out of a branch is cutting the rest of it out of the child at its first index.
use Rattle.std.proofs.Common.{◌≡◌, ℕ, suc, ◌+◌, ◌^◌, ◌<◌, ◌≤◌, List, [], ◌∷◌, ◌++◌, length, Bool, true, false, not, cond, T, Some, None, arith, refl, sym, ◌∙◌}
use Rattle.std.proofs.Common.{ap, subst}
use Rattle.std.specs.Prelude.{◌&&◌, is_some}
use Rattle.std.specs.List.{remove}
use Rattle.std.specs.declared.cmp.Ordering.{Ordering}
use Rattle.std.specs.declared.cmp.Ordering.TheVariants.{Less, Equal, Greater}
use Rattle.std.specs.Ordering.{nat_cmp, is_eq, is_lt, ordering_then, eq_by_cmp}
use Rattle.std.specs.Cmp.{tied_itself, nat_cmp_total}
use Rattle.std.specs.Cmp.Lexicographic.{nat_list_cmp_total}
use Rattle.std.specs.FinMap.Entries.{by_order, find, is_sorted, below_all, length_without}
use Rattle.std.proofs.lemmas.List.Elements.{filter-append}
use Rattle.dots.specs.Bytes.{bytes_cmp}
use Rattle.hash_path.specs.Word.{AllWords}
use Rattle.hash_path.specs.Cut.{cut, without, spot}
use Rattle.hash_path.specs.Fan.{under, fan, Rise, at, there, place, put_child, bits_of}
use Rattle.hash_path.proofs.Orders.{same, is_less}
use Rattle.hash_path.proofs.Rising.{Rise-weaken}
use Rattle.hash_path.proofs.Words.{tied_same}

both : (a b : Bool) → T a → T b → T (a && b)
both true b p q = q
both false b p q = p

first : (a b : Bool) → T (a && b) → T a
first true b p = tt
first false b p = p

second : (a b : Bool) → T (a && b) → T b
second true b p = p
second false b p = absurd p

same_index : (j : ℕ) (r : Ordering) → ordering_then (nat_cmp j j) r ≡ r
same_index j r = ap (λ o. ordering_then o r) (tied_itself nat_cmp_total j)

module _ {V : Type 0} (i : ℕ) (w : List ℕ) where
  kept : (j : ℕ) (b : Bool) (e : List ℕ × V) (es rest : List (List ℕ × V)) → rest ≡ under j (cut w es)
      → cond b ((j ∷ e.0, e.1) ∷ rest) rest ≡ under j (cond b (e ∷ cut w es) (cut w es))
  kept j true e es rest h = ap (λ l. (j ∷ e.0, e.1) ∷ l) h
  kept j false e es rest h = h

  cut-under : (j : ℕ) (es : List (List ℕ × V)) (o : Ordering) → nat_cmp i j ≡ o
      → cut (i ∷ w) (under j es) ≡ by_order o (under j es) (under j (cut w es)) (under j es)
  cut-under j [] Less p = refl
  cut-under j [] Equal p = refl
  cut-under j [] Greater p = refl
  cut-under j (e ∷ es) Less p =
      ap (λ r. cond (not (is_eq (ordering_then r (bytes_cmp w e.0)))) ((j ∷ e.0, e.1) ∷ cut (i ∷ w) (under j es)) (cut (i ∷ w) (under j es))) p
      ∙ ap (λ l. (j ∷ e.0, e.1) ∷ l) (cut-under j es Less p)
  cut-under j (e ∷ es) Equal p =
      ap (λ r. cond (not (is_eq (ordering_then r (bytes_cmp w e.0)))) ((j ∷ e.0, e.1) ∷ cut (i ∷ w) (under j es)) (cut (i ∷ w) (under j es))) p
      ∙ kept j (not (is_eq (bytes_cmp w e.0))) e es (cut (i ∷ w) (under j es)) (cut-under j es Equal p)
  cut-under j (e ∷ es) Greater p =
      ap (λ r. cond (not (is_eq (ordering_then r (bytes_cmp w e.0)))) ((j ∷ e.0, e.1) ∷ cut (i ∷ w) (under j es)) (cut (i ∷ w) (under j es))) p
      ∙ ap (λ l. (j ∷ e.0, e.1) ∷ l) (cut-under j es Greater p)

  cut-append : (xs ys : List (List ℕ × V)) → cut (i ∷ w) (xs ++ ys) ≡ cut (i ∷ w) xs ++ cut (i ∷ w) ys
  cut-append xs ys = filter-append (λ e. not (eq_by_cmp bytes_cmp (i ∷ w) e.0)) xs ys

  cut_absent : (low : ℕ) (cs : List (ℕ × List (List ℕ × V))) → Rise low cs → i < low → cut (i ∷ w) (fan cs) ≡ fan cs
  cut_absent low [] r h = refl
  cut_absent low (c ∷ cs) r h =
      let below : i < c.0 = omega arith in
      let next : i < suc c.0 = omega arith in
      let one = cut-under c.0 c.1 Less (is_less i c.0 below) in
      let rest = cut_absent (suc c.0) cs r.2 next in
      cut-append (under c.0 c.1) (fan cs) ∙ (λ k. one k ++ rest k)

  cut_step : (c : ℕ × List (List ℕ × V)) (cs : List (ℕ × List (List ℕ × V))) (o : Ordering) → nat_cmp i c.0 ≡ o → Rise (suc c.0) cs
      → (there i cs ≡ true → cut (i ∷ w) (fan cs) ≡ fan (put_child i (cut w (at i cs)) cs)) → by_order o false true (there i cs) ≡ true
      → cut (i ∷ w) (under c.0 c.1 ++ fan cs)
      ≡ fan (by_order o ((i, cut w (by_order o [] c.1 (at i cs))) ∷ c ∷ cs) ((c.0, cut w (by_order o [] c.1 (at i cs))) ∷ cs)
      (c ∷ put_child i (cut w (by_order o [] c.1 (at i cs))) cs))
  cut_step c cs Less p r rest t = cc
  cut_step c cs Equal p r rest t =
      let next : i < suc c.0 = let h = same i c.0 p in omega arith in
      let one = cut-under c.0 c.1 Equal p in
      let others = cut_absent (suc c.0) cs r next in
      cut-append (under c.0 c.1) (fan cs) ∙ (λ k. one k ++ others k)
  cut_step c cs Greater p r rest t =
      let one = cut-under c.0 c.1 Greater p in
      let others = rest t in
      cut-append (under c.0 c.1) (fan cs) ∙ (λ k. one k ++ others k)

  -- the word goes from the entries of its index
  pub cut-fan : (low : ℕ) (cs : List (ℕ × List (List ℕ × V))) → Rise low cs → there i cs ≡ true → cut (i ∷ w) (fan cs) ≡ fan (put_child i (cut w (at i cs)) cs)
  cut-fan low [] r t = cc
  cut-fan low (c ∷ cs) r t = cut_step c cs (nat_cmp i c.0) refl r.2 (cut-fan (suc c.0) cs r.2) t

-- ---- a child that goes

module _ {V : Type 0} (i : ℕ) where
  pub fan-without : (cs : List (ℕ × List (List ℕ × V))) → there i cs ≡ true → fan (put_child i [] cs) ≡ fan (without i cs)
  fan-without [] t = cc
  fan-without (c ∷ cs) t = step (nat_cmp i c.0) (fan-without cs) t
    where
      step : (o : Ordering) → (there i cs ≡ true → fan (put_child i [] cs) ≡ fan (without i cs)) → by_order o false true (there i cs) ≡ true
          → fan (by_order o ((i, []) ∷ c ∷ cs) ((c.0, []) ∷ cs) (c ∷ put_child i [] cs)) ≡ fan (by_order o (c ∷ cs) cs (c ∷ without i cs))
      step Less rest k = cc
      step Equal rest k = refl
      step Greater rest k = ap (λ l. under c.0 c.1 ++ l) (rest k)

  pub remove_there : (cs : List (ℕ × List (List ℕ × V))) → there i cs ≡ true → remove cs (place i cs) ≡ without i cs
  remove_there [] t = cc
  remove_there (c ∷ cs) t = step (nat_cmp i c.0) (remove_there cs) t
    where
      step : (o : Ordering) → (there i cs ≡ true → remove cs (place i cs) ≡ without i cs) → by_order o false true (there i cs) ≡ true
          → remove (c ∷ cs) (by_order o 0 0 (suc (place i cs))) ≡ by_order o (c ∷ cs) cs (c ∷ without i cs)
      step Less rest k = cc
      step Equal rest k = refl
      step Greater rest k = ap (λ l. c ∷ l) (rest k)

  pub Rise-without : (low : ℕ) (cs : List (ℕ × List (List ℕ × V))) → Rise low cs → Rise low (without i cs)
  Rise-without low [] r = tt
  Rise-without low (c ∷ cs) r = step (nat_cmp i c.0) (Rise-without (suc c.0) cs r.2)
    where
      step : (o : Ordering) → Rise (suc c.0) (without i cs) → Rise low (by_order o (c ∷ cs) cs (c ∷ without i cs))
      step Less rest = r
      step Equal rest = Rise-weaken low (suc c.0) cs (let k = r.0 in omega arith) r.2
      step Greater rest = (r.0, r.1, rest)

  pub bits_without : (cs : List (ℕ × List (List ℕ × V))) → there i cs ≡ true → bits_of (without i cs) + 2 ^ i ≡ bits_of cs
  bits_without [] t = cc
  bits_without (c ∷ cs) t = step (nat_cmp i c.0) refl (bits_without cs) t
    where
      step : (o : Ordering) → nat_cmp i c.0 ≡ o → (there i cs ≡ true → bits_of (without i cs) + 2 ^ i ≡ bits_of cs) → by_order o false true (there i cs) ≡ true
          → bits_of (by_order o (c ∷ cs) cs (c ∷ without i cs)) + 2 ^ i ≡ 2 ^ c.0 + bits_of cs
      step Less p rest k = cc
      step Equal p rest k = let e = ap (λ n. 2 ^ n) (same i c.0 p) in omega arith
      step Greater p rest k = let h = rest k in omega arith

-- ---- what a cut keeps

module _ {V : Type 0} where
  pub AllWords-cut : (height : ℕ) (w : List ℕ) (es : List (List ℕ × V)) → AllWords height es → AllWords height (cut w es)
  AllWords-cut height w [] a = tt
  AllWords-cut height w (e ∷ es) a = step (not (eq_by_cmp bytes_cmp w e.0)) (AllWords-cut height w es a.1)
    where
      step : (b : Bool) → AllWords height (cut w es) → AllWords height (cond b (e ∷ cut w es) (cut w es))
      step true rest = (a.0, rest)
      step false rest = rest

  pub length-cut : (w : List ℕ) (es : List (List ℕ × V)) → T (is_sorted bytes_cmp es) → is_some (find bytes_cmp w es) ≡ true
      → suc (length (cut w es)) ≡ length es
  length-cut w es s f =
      let all = subst (λ b. cond b 1 0 + length (cut w es) ≡ length es) f (length_without bytes_cmp nat_list_cmp_total w es s) in
      omega arith

  -- ---- order

  below_right : (x : List ℕ) (xs ys : List (List ℕ × V)) → T (below_all bytes_cmp x (xs ++ ys)) → T (below_all bytes_cmp x xs)
  below_right x [] ys t = tt
  below_right x (e ∷ xs) ys t =
      both _ _ (first (is_lt (bytes_cmp x e.0)) (below_all bytes_cmp x (xs ++ ys)) t)
      (below_right x xs ys (second (is_lt (bytes_cmp x e.0)) (below_all bytes_cmp x (xs ++ ys)) t))

  sorted_left : (xs ys : List (List ℕ × V)) → T (is_sorted bytes_cmp (xs ++ ys)) → T (is_sorted bytes_cmp xs)
  sorted_left [] ys t = tt
  sorted_left (e ∷ xs) ys t =
      both _ _ (below_right e.0 xs ys (first (below_all bytes_cmp e.0 (xs ++ ys)) (is_sorted bytes_cmp (xs ++ ys)) t))
      (sorted_left xs ys (second (below_all bytes_cmp e.0 (xs ++ ys)) (is_sorted bytes_cmp (xs ++ ys)) t))

  sorted_right : (xs ys : List (List ℕ × V)) → T (is_sorted bytes_cmp (xs ++ ys)) → T (is_sorted bytes_cmp ys)
  sorted_right [] ys t = t
  sorted_right (e ∷ xs) ys t = sorted_right xs ys (second (below_all bytes_cmp e.0 (xs ++ ys)) (is_sorted bytes_cmp (xs ++ ys)) t)

  below-under : (j : ℕ) (x : List ℕ) (es : List (List ℕ × V)) → T (below_all bytes_cmp (j ∷ x) (under j es)) → T (below_all bytes_cmp x es)
  below-under j x [] t = tt
  below-under j x (e ∷ es) t =
      both _ _ (subst (λ r. T (is_lt r)) (same_index j (bytes_cmp x e.0))
      (first (is_lt (bytes_cmp (j ∷ x) (j ∷ e.0))) (below_all bytes_cmp (j ∷ x) (under j es)) t))
      (below-under j x es (second (is_lt (bytes_cmp (j ∷ x) (j ∷ e.0))) (below_all bytes_cmp (j ∷ x) (under j es)) t))

  sorted-under : (j : ℕ) (es : List (List ℕ × V)) → T (is_sorted bytes_cmp (under j es)) → T (is_sorted bytes_cmp es)
  sorted-under j [] t = tt
  sorted-under j (e ∷ es) t =
      both _ _ (below-under j e.0 es (first (below_all bytes_cmp (j ∷ e.0) (under j es)) (is_sorted bytes_cmp (under j es)) t))
      (sorted-under j es (second (below_all bytes_cmp (j ∷ e.0) (under j es)) (is_sorted bytes_cmp (under j es)) t))

  -- the entries at an index ascend where all do
  pub sorted-at : (i : ℕ) (cs : List (ℕ × List (List ℕ × V))) → T (is_sorted bytes_cmp (fan cs)) → T (is_sorted bytes_cmp (at i cs))
  sorted-at i [] t = tt
  sorted-at i (c ∷ cs) t = step (nat_cmp i c.0) (sorted-at i cs (sorted_right (under c.0 c.1) (fan cs) t))
    where
      step : (o : Ordering) → T (is_sorted bytes_cmp (at i cs)) → T (is_sorted bytes_cmp (by_order o [] c.1 (at i cs)))
      step Less rest = tt
      step Equal rest = sorted-under c.0 c.1 (sorted_left (under c.0 c.1) (fan cs) t)
      step Greater rest = rest

-- ---- the place of what goes

not_tied : (o : Ordering) → T (is_lt o) → is_eq o ≡ false
not_tied Less t = refl
not_tied Equal t = absurd t
not_tied Greater t = absurd t

module _ {V : Type 0} (w : List ℕ) where
  cut_none : (es : List (List ℕ × V)) → T (below_all bytes_cmp w es) → cut w es ≡ es
  cut_none [] t = refl
  cut_none (e ∷ es) t =
      let apart : eq_by_cmp bytes_cmp w e.0 ≡ false = not_tied (bytes_cmp w e.0) (first (is_lt (bytes_cmp w e.0)) (below_all bytes_cmp w es) t) in
      let rest = cut_none es (second (is_lt (bytes_cmp w e.0)) (below_all bytes_cmp w es) t) in
      (λ i. cond (not (apart i)) (e ∷ cut w es) (cut w es)) ∙ ap (λ l. e ∷ l) rest

  -- in an ascending list nothing behind the first that ties does
  pub remove_spot : (es : List (List ℕ × V)) → T (is_sorted bytes_cmp es) → spot w es < length es → remove es (spot w es) ≡ cut w es
  remove_spot [] s h = absurd (omega arith)
  remove_spot (e ∷ es) s h = step (eq_by_cmp bytes_cmp w e.0) refl (remove_spot es (second (below_all bytes_cmp e.0 es) (is_sorted bytes_cmp es) s)) h
    where
      step : (b : Bool) → eq_by_cmp bytes_cmp w e.0 ≡ b → (spot w es < length es → remove es (spot w es) ≡ cut w es)
          → cond b 0 (suc (spot w es)) < suc (length es)
          → remove (e ∷ es) (cond b 0 (suc (spot w es))) ≡ cond (not b) (e ∷ cut w es) (cut w es)
      step true t rest l =
          sym (cut_none es (subst (λ x. T (below_all bytes_cmp x es)) (sym (tied_same w e.0 t))
          (first (below_all bytes_cmp e.0 es) (is_sorted bytes_cmp es) s)))
      step false t rest l = ap (λ r. e ∷ r) (rest (omega arith))

  pub cut_past : (es : List (List ℕ × V)) → length es ≤ spot w es → cut w es ≡ es
  cut_past [] h = refl
  cut_past (e ∷ es) h = step (eq_by_cmp bytes_cmp w e.0) (cut_past es) h
    where
      step : (b : Bool) → (length es ≤ spot w es → cut w es ≡ es) → suc (length es) ≤ cond b 0 (suc (spot w es))
          → cond (not b) (e ∷ cut w es) (cut w es) ≡ e ∷ es
      step true rest l = absurd (omega arith)
      step false rest l = ap (λ r. e ∷ r) (rest (omega arith))

  -- a word that is not there
  pub cut_missing : (es : List (List ℕ × V)) → find bytes_cmp w es ≡ None → cut w es ≡ es
  cut_missing [] h = refl
  cut_missing (e ∷ es) h = step (eq_by_cmp bytes_cmp w e.0) (cut_missing es) h
    where
      step : (b : Bool) → (find bytes_cmp w es ≡ None → cut w es ≡ es) → cond b (Some e.1) (find bytes_cmp w es) ≡ None
          → cond (not b) (e ∷ cut w es) (cut w es) ≡ e ∷ es
      step true rest l = cc
      step false rest l = ap (λ r. e ∷ r) (rest l)
