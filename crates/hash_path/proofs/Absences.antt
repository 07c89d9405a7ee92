-- The entries under a prefix have no summary exactly where no key's path begins with the prefix.
use Rattle.std.proofs.Common.{◌≡◌, ℕ, zero, suc, ◌-◌, ◌≤◌, ◌↔◌, List, [], ◌∷◌, ◌++◌, length, take, drop, get_or, Bool, true, false, cond, nat_eq, Some, None}
use Rattle.std.proofs.Common.{arith, refl, sym, ◌∙◌, ap, subst, eq-eqb, ne_eqb}
use Rattle.std.specs.declared.option.Option.{Option}
use Rattle.std.specs.declared.cmp.Ordering.{Ordering}
use Rattle.std.specs.declared.cmp.Ordering.TheVariants.{Less, Equal, Greater}
use Rattle.std.specs.Ordering.{nat_cmp, is_eq, eq_by_cmp, ordering_then}
use Rattle.std.specs.FinMap as finite
use Rattle.std.specs.FinMap.Entries.{find}
use Rattle.std.proofs.Math.Seq.{take-append_seam}
use Rattle.hash_path.specs.Path.{indices}
use Rattle.hash_path.specs.PathLaws.{length-indices}
use Rattle.dots.specs.Bytes.{bytes_cmp}
use Rattle.hash_path.specs.Word.{digit, word, hash_in, key_in, IsWord, AllWords}
use Rattle.hash_path.specs.Map.{path, key_of, HashedBy, as_map}
use Rattle.hash_path.specs.Summary.{SummaryCalls, under_index, under_prefix, summary_of, summary_at}
use Rattle.hash_path.proofs.Orders.{less, same, more}
use Rattle.hash_path.proofs.Maps.{get-as_map}
use Rattle.hash_path.proofs.Paths.{path_begins}
use Rattle.hash_path.proofs.Walks.{find_off}
use Rattle.hash_path.proofs.Words.{IsWord-word, tied_same, same_tied}

same_front : (a b x y : List ℕ) → length a ≡ length b → a ++ x ≡ b ++ y → a ≡ b
same_front a b x y n e = sym (take-append_seam a x) ∙ (λ i. take (n i) (e i)) ∙ take-append_seam b y

module _ {V : Type 0} where
  -- ---- the entries under a prefix

  AllWords-index : (below i : ℕ) (es : List (List ℕ × V)) → AllWords (suc below) es → AllWords below (under_index i es)
  AllWords-index below i [] a = tt
  AllWords-index below i (e ∷ es) a = step (nat_eq i (get_or e.0 0 0)) (AllWords-index below i es a.1)
    where
      step : (b : Bool) → AllWords below (under_index i es) → AllWords below (cond b ((drop 1 e.0, e.1) ∷ under_index i es) (under_index i es))
      step true rest = (subst (IsWord below) (sym (ap (drop 1) a.0)) (IsWord-word below (hash_in (suc below) e.0) (key_in (suc below) e.0)), rest)
      step false rest = rest

  found_under : (i j : ℕ) (w u : List ℕ) (v : V) (found : Option V) (rest : List (List ℕ × V)) (o : Ordering) → nat_cmp i j ≡ o → found ≡ find bytes_cmp w rest
      → cond (eq_by_cmp bytes_cmp (i ∷ w) (j ∷ u)) (Some v) found ≡ find bytes_cmp w (cond (nat_eq i j) ((u, v) ∷ rest) rest)
  found_under i j w u v found rest Less p e =
      let h = less i j p in
      ap (λ r. cond (is_eq (ordering_then r (bytes_cmp w u))) (Some v) found) p ∙ e
      ∙ ap (λ b. find bytes_cmp w (cond b ((u, v) ∷ rest) rest)) (sym (ne_eqb i j (λ q. absurd (omega arith))))
  found_under i j w u v found rest Equal p e =
      ap (λ r. cond (is_eq (ordering_then r (bytes_cmp w u))) (Some v) found) p ∙ ap (cond (is_eq (bytes_cmp w u)) (Some v)) e
      ∙ ap (λ b. find bytes_cmp w (cond b ((u, v) ∷ rest) rest)) (sym (eq-eqb i j (same i j p)))
  found_under i j w u v found rest Greater p e =
      let h = more i j p in
      ap (λ r. cond (is_eq (ordering_then r (bytes_cmp w u))) (Some v) found) p ∙ e
      ∙ ap (λ b. find bytes_cmp w (cond b ((u, v) ∷ rest) rest)) (sym (ne_eqb i j (λ q. absurd (omega arith))))

  find-index : (below i : ℕ) (w : List ℕ) (es : List (List ℕ × V)) → AllWords (suc below) es → find bytes_cmp (i ∷ w) es ≡ find bytes_cmp w (under_index i es)
  find-index below i w [] a = refl
  find-index below i w (e ∷ es) a =
      let j = digit below (hash_in (suc below) e.0) in
      let u = word below (hash_in (suc below) e.0) (key_in (suc below) e.0) in
      let at = found_under i j w u e.1 (find bytes_cmp (i ∷ w) es) (under_index i es) (nat_cmp i j) refl (find-index below i w es a.1) in
      ap (λ x. cond (eq_by_cmp bytes_cmp (i ∷ w) x) (Some e.1) (find bytes_cmp (i ∷ w) es)) a.0 ∙ at
      ∙ ap (λ x. find bytes_cmp w (cond (nat_eq i (get_or x 0 0)) ((drop 1 x, e.1) ∷ under_index i es) (under_index i es))) (sym a.0)

  find-under : (p : List ℕ) (height : ℕ) (w : List ℕ) (es : List (List ℕ × V)) → length p ≤ height → AllWords height es
      → find bytes_cmp (p ++ w) es ≡ find bytes_cmp w (under_prefix p es)
  find-under [] height w es h a = refl
  find-under (i ∷ p) zero w es h a = absurd (omega arith)
  find-under (i ∷ p) (suc below) w es h a = find-index below i (p ++ w) es a
      ∙ find-under p below w (under_index i es) (omega arith) (AllWords-index below i es a)

  HashedBy-AllWords : (f : List ℕ → ℕ) (es : List (List ℕ × V)) → HashedBy f es → AllWords 7 es
  HashedBy-AllWords f [] h = tt
  HashedBy-AllWords f (e ∷ es) h = (subst (IsWord 7) (sym h.0) (IsWord-word 7 (f (key_of e.0)) (key_of e.0)), HashedBy-AllWords f es h.1)

  found_path : (f : List ℕ → ℕ) (w : List ℕ) (v : V) (es : List (List ℕ × V)) → HashedBy f es → find bytes_cmp w es ≡ Some v → w ≡ path f (key_of w)
  found_path f w v es h e = step (eq_by_cmp bytes_cmp w (path f (key_of w))) refl
    where
      step : (b : Bool) → eq_by_cmp bytes_cmp w (path f (key_of w)) ≡ b → w ≡ path f (key_of w)
      step true t = tied_same w (path f (key_of w)) t
      step false t = let none = find_off f w es h t in absurd cc

module _ {V M : Type 0} (c : SummaryCalls V M) where
  none_of : (height : ℕ) (es : List (List ℕ × V)) → summary_of c height es ≡ None → es ≡ []
  none_of height [] e = refl
  none_of height (x ∷ []) e = absurd cc
  none_of zero (x ∷ y ∷ es) e = absurd cc
  none_of (suc below) (x ∷ y ∷ es) e = absurd cc

  none_under : (p : List ℕ) (height : ℕ) (es : List (List ℕ × V)) → length p ≤ height → summary_at c p height es ≡ None → under_prefix p es ≡ []
  none_under [] height es h e = none_of height es e
  none_under (i ∷ p) zero es h e = absurd (omega arith)
  none_under (i ∷ p) (suc below) es h e = none_under p below (under_index i es) (omega arith) e

  under_none : (p : List ℕ) (height : ℕ) (es : List (List ℕ × V)) → length p ≤ height → under_prefix p es ≡ [] → summary_at c p height es ≡ None
  under_none [] height es h e = ap (summary_of c height) e
  under_none (i ∷ p) zero es h e = refl
  under_none (i ∷ p) (suc below) es h e = under_none p below (under_index i es) (omega arith) e

  module _ (f : List ℕ → ℕ) (p : List ℕ) (es : List (List ℕ × V)) (short : length p ≤ 7) (h : HashedBy f es) where
    absent : summary_at c p 7 es ≡ None → (key : List ℕ) → indices (length p) (f key) ≡ p → finite.get (as_map es) key ≡ None
    absent e key covers =
        let r = 7 - length p in
        let w = word r (f key) key in
        let is : path f key ≡ p ++ w = path_begins f (length p) r key (omega arith) ∙ ap (λ q. q ++ w) covers in
        get-as_map f key es h ∙ ap (λ q. find bytes_cmp q es) is ∙ find-under p 7 w es short (HashedBy-AllWords f es h)
        ∙ ap (find bytes_cmp w) (none_under p 7 es short e)

    nothing : ((key : List ℕ) → indices (length p) (f key) ≡ p → finite.get (as_map es) key ≡ None) → (left : List (List ℕ × V)) → under_prefix p es ≡ left
        → left ≡ []
    nothing all [] e = refl
    nothing all (x ∷ left) e =
        let w = p ++ x.0 in
        let here : find bytes_cmp x.0 (x ∷ left) ≡ Some x.1 = ap (λ b. cond b (Some x.1) (find bytes_cmp x.0 left)) (same_tied x.0 x.0 refl) in
        let found : find bytes_cmp w es ≡ Some x.1 = find-under p 7 x.0 es short (HashedBy-AllWords f es h) ∙ ap (find bytes_cmp x.0) e ∙ here in
        let is : w ≡ path f (key_of w) = found_path f w x.1 es h found in
        let r = 7 - length p in
        let covers : indices (length p) (f (key_of w)) ≡ p =
        same_front (indices (length p) (f (key_of w))) p (word r (f (key_of w)) (key_of w)) x.0 (length-indices (length p) (f (key_of w)))
        (sym (path_begins f (length p) r (key_of w) (omega arith)) ∙ sym is) in
        let gone : Some x.1 ≡ None = sym found ∙ ap (λ q. find bytes_cmp q es) is ∙ sym (get-as_map f (key_of w) es h) ∙ all (key_of w) covers in
        absurd cc

    pub none_exactly : (summary_at c p 7 es ≡ None) ↔ ((key : List ℕ) → indices (length p) (f key) ≡ p → finite.get (as_map es) key ≡ None)
    none_exactly = (absent, λ all. under_none p 7 es short (nothing all (under_prefix p es) refl))
