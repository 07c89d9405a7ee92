-- Putting a word into a branch is putting the rest of it into the child at its first index.
use Rattle.std.proofs.Common.{◌≡◌, ℕ, suc, ◌+◌, ◌<◌, List, [], ◌∷◌, ◌++◌, length, length-append, arith, refl, ◌∙◌, ap}
use Rattle.std.proofs.lemmas.List.{length-map}
use Rattle.std.specs.declared.cmp.Ordering.{Ordering}
use Rattle.std.specs.declared.cmp.Ordering.TheVariants.{Less, Equal, Greater}
use Rattle.std.specs.Ordering.{nat_cmp, ordering_then}
use Rattle.std.specs.FinMap.Entries.{by_order, put}
use Rattle.dots.specs.Bytes.{bytes_cmp}
use Rattle.hash_path.specs.Fan.{under, fan, Rise, at, put_child}
use Rattle.hash_path.proofs.Orders.{less, same, is_less}

module _ {V : Type 0} (i : ℕ) (w : List ℕ) (v : V) where
  -- before entries of greater indices
  put_above : (j : ℕ) (es rest : List (List ℕ × V)) → nat_cmp i j ≡ Less → put bytes_cmp (i ∷ w) v rest ≡ (i ∷ w, v) ∷ rest
      → put bytes_cmp (i ∷ w) v (under j es ++ rest) ≡ (i ∷ w, v) ∷ (under j es ++ rest)
  put_above j [] rest p h = h
  put_above j (e ∷ es) rest p h =
      ap (λ r. by_order (ordering_then r (bytes_cmp w e.0)) ((i ∷ w, v) ∷ (under j (e ∷ es) ++ rest)) ((j ∷ e.0, v) ∷ (under j es ++ rest))
      ((j ∷ e.0, e.1) ∷ put bytes_cmp (i ∷ w) v (under j es ++ rest))) p

  pub put_first : (low : ℕ) (cs : List (ℕ × List (List ℕ × V))) → Rise low cs → i < low → put bytes_cmp (i ∷ w) v (fan cs) ≡ (i ∷ w, v) ∷ fan cs
  put_first low [] r h = refl
  put_first low (c ∷ cs) r h =
      let below : i < c.0 = omega arith in
      let next : i < suc c.0 = omega arith in
      put_above c.0 c.1 (fan cs) (is_less i c.0 below) (put_first (suc c.0) cs r.2 next)

  -- behind entries of lesser indices
  put_past : (j : ℕ) (es rest : List (List ℕ × V)) → nat_cmp i j ≡ Greater → put bytes_cmp (i ∷ w) v (under j es ++ rest) ≡ under j es
      ++ put bytes_cmp (i ∷ w) v rest
  put_past j [] rest p = refl
  put_past j (e ∷ es) rest p =
      ap (λ r. by_order (ordering_then r (bytes_cmp w e.0)) ((i ∷ w, v) ∷ (under j (e ∷ es) ++ rest)) ((j ∷ e.0, v) ∷ (under j es ++ rest))
      ((j ∷ e.0, e.1) ∷ put bytes_cmp (i ∷ w) v (under j es ++ rest))) p
      ∙ ap (λ l. (j ∷ e.0, e.1) ∷ l) (put_past j es rest p)

  among : (j : ℕ) (e : List ℕ × V) (es rest : List (List ℕ × V)) (o : Ordering) → i ≡ j
      → put bytes_cmp (i ∷ w) v (under j es ++ rest) ≡ under j (put bytes_cmp w v es) ++ rest
      → by_order o ((i ∷ w, v) ∷ (under j (e ∷ es) ++ rest)) ((j ∷ e.0, v) ∷ (under j es ++ rest))
      ((j ∷ e.0, e.1) ∷ put bytes_cmp (i ∷ w) v (under j es ++ rest))
      ≡ under j (by_order o ((w, v) ∷ e ∷ es) ((e.0, v) ∷ es) (e ∷ put bytes_cmp w v es)) ++ rest
  among j e es rest Less q h = ap (λ k. (k ∷ w, v) ∷ (under j (e ∷ es) ++ rest)) q
  among j e es rest Equal q h = refl
  among j e es rest Greater q h = ap (λ l. (j ∷ e.0, e.1) ∷ l) h

  put_here : (j : ℕ) (es rest : List (List ℕ × V)) → nat_cmp i j ≡ Equal → put bytes_cmp (i ∷ w) v rest ≡ (i ∷ w, v) ∷ rest
      → put bytes_cmp (i ∷ w) v (under j es ++ rest) ≡ under j (put bytes_cmp w v es) ++ rest
  put_here j [] rest p h = h ∙ ap (λ k. (k ∷ w, v) ∷ rest) (same i j p)
  put_here j (e ∷ es) rest p h =
      ap (λ r. by_order (ordering_then r (bytes_cmp w e.0)) ((i ∷ w, v) ∷ (under j (e ∷ es) ++ rest)) ((j ∷ e.0, v) ∷ (under j es ++ rest))
      ((j ∷ e.0, e.1) ∷ put bytes_cmp (i ∷ w) v (under j es ++ rest))) p
      ∙ among j e es rest (bytes_cmp w e.0) (same i j p) (put_here j es rest p h)

  put_step : (c : ℕ × List (List ℕ × V)) (cs : List (ℕ × List (List ℕ × V))) (o : Ordering) → nat_cmp i c.0 ≡ o → Rise (suc c.0) cs
      → put bytes_cmp (i ∷ w) v (fan cs) ≡ fan (put_child i (put bytes_cmp w v (at i cs)) cs)
      → put bytes_cmp (i ∷ w) v (under c.0 c.1 ++ fan cs)
      ≡ fan (by_order o ((i, put bytes_cmp w v (by_order o [] c.1 (at i cs))) ∷ c ∷ cs) ((c.0, put bytes_cmp w v (by_order o [] c.1 (at i cs))) ∷ cs)
      (c ∷ put_child i (put bytes_cmp w v (by_order o [] c.1 (at i cs))) cs))
  put_step c cs Less p r rest =
      let next : i < suc c.0 = let h = less i c.0 p in omega arith in
      put_above c.0 c.1 (fan cs) p (put_first (suc c.0) cs r next)
  put_step c cs Equal p r rest =
      let next : i < suc c.0 = let h = same i c.0 p in omega arith in
      put_here c.0 c.1 (fan cs) p (put_first (suc c.0) cs r next)
  put_step c cs Greater p r rest = put_past c.0 c.1 (fan cs) p ∙ ap (λ l. under c.0 c.1 ++ l) rest

  pub put-fan : (low : ℕ) (cs : List (ℕ × List (List ℕ × V))) → Rise low cs → put bytes_cmp (i ∷ w) v (fan cs)
      ≡ fan (put_child i (put bytes_cmp w v (at i cs)) cs)
  put-fan low [] r = refl
  put-fan low (c ∷ cs) r = put_step c cs (nat_cmp i c.0) refl r.2 (put-fan (suc c.0) cs r.2)

-- ---- how many

module _ {V : Type 0} (i : ℕ) (es : List (List ℕ × V)) where
  length-under : (j : ℕ) (fs rest : List (List ℕ × V)) → length (under j fs ++ rest) ≡ length fs + length rest
  length-under j fs rest = length-append (under j fs) rest ∙ ap (λ n. n + length rest) (length-map fs (λ e. (j ∷ e.0, e.1)))

  more_step : (c : ℕ × List (List ℕ × V)) (cs : List (ℕ × List (List ℕ × V))) (o : Ordering)
      → length (fan (put_child i es cs)) + length (at i cs) ≡ length (fan cs) + length es
      → length (fan (by_order o ((i, es) ∷ c ∷ cs) ((c.0, es) ∷ cs) (c ∷ put_child i es cs))) + length (by_order o [] c.1 (at i cs))
      ≡ length (under c.0 c.1 ++ fan cs) + length es
  more_step c cs Less rest = let all = length-under i es (under c.0 c.1 ++ fan cs) in omega (arith, all)
  more_step c cs Equal rest =
      let here = length-under c.0 c.1 (fan cs) in
      let there = length-under c.0 es (fan cs) in
      omega (arith, here, there)
  more_step c cs Greater rest =
      let before = length-under c.0 c.1 (fan cs) in
      let after = length-under c.0 c.1 (fan (put_child i es cs)) in
      omega (arith, before, after, rest)

  -- a branch has as many entries more as the child does
  pub length-put_child : (cs : List (ℕ × List (List ℕ × V))) → length (fan (put_child i es cs)) + length (at i cs) ≡ length (fan cs) + length es
  length-put_child [] = let all = length-under i es [] in omega (arith, all)
  length-put_child (c ∷ cs) = more_step c cs (nat_cmp i c.0) (length-put_child cs)
