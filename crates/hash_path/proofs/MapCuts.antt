-- What a cut by path is to the map of entries by path.
use Rattle.std.proofs.Common.{◌≡◌, ℕ, List, [], ◌∷◌, Bool, true, false, not, cond, T, Some, None, refl, sym, ◌∙◌, ap}
use Rattle.std.specs.Prelude.{is_some, ◌&&◌}
use Rattle.std.specs.declared.cmp.Ordering.{Ordering}
use Rattle.std.specs.declared.cmp.Ordering.TheVariants.{Less, Equal, Greater}
use Rattle.std.specs.Ordering.{is_eq, is_lt, eq_by_cmp}
use Rattle.std.specs.Cmp.{eq_by_cmp_equiv}
use Rattle.std.specs.Cmp.Lexicographic.{nat_list_cmp_total}
use Rattle.std.specs.FinMap as finite
use Rattle.std.specs.FinMap.{get-remove, same_map, nat_cmp-IsAntisymmetric, slice_cmp-IsAntisymmetric}
use Rattle.std.specs.FinMap.Entries.{find, is_sorted, find-where_key}
use Rattle.dots.specs.Bytes.{bytes_cmp}
use Rattle.hash_path.specs.Cut.{cut}
use Rattle.hash_path.specs.Map.{path, HashedBy, as_map}
use Rattle.hash_path.proofs.Words.{tied_same}
use Rattle.hash_path.proofs.Maps.{get-as_map, tied_path}

turned : {A : Type 0} (b : Bool) (x y : A) → cond (not b) x y ≡ cond b y x
turned true x y = refl
turned false x y = refl

module _ {V : Type 0} (f : List ℕ → ℕ) where
  pub HashedBy-cut : (w : List ℕ) (es : List (List ℕ × V)) → HashedBy f es → HashedBy f (cut w es)
  HashedBy-cut w [] h = tt
  HashedBy-cut w (e ∷ es) h = step (not (eq_by_cmp bytes_cmp w e.0)) (HashedBy-cut w es h.1)
    where
      step : (b : Bool) → HashedBy f (cut w es) → HashedBy f (cond b (e ∷ cut w es) (cut w es))
      step true rest = (h.0, rest)
      step false rest = rest

  pub as_map-cut : (k : List ℕ) (es : List (List ℕ × V)) → HashedBy f es → as_map (cut (path f k) es) ≡ finite.remove (as_map es) k
  as_map-cut k es h =
      same_map nat_list_cmp_total (slice_cmp-IsAntisymmetric nat_cmp-IsAntisymmetric) _ _
      (λ q. get-as_map f q (cut (path f k) es) (HashedBy-cut (path f k) es h)
      ∙ find-where_key bytes_cmp (λ x. not (eq_by_cmp bytes_cmp (path f k) x)) (path f q)
      (λ x t. ap (λ y. not (eq_by_cmp bytes_cmp (path f k) y)) (sym (slice_cmp-IsAntisymmetric nat_cmp-IsAntisymmetric (path f q) x t))) es
      ∙ turned (eq_by_cmp bytes_cmp (path f k) (path f q)) (find bytes_cmp (path f q) es) None
      ∙ (λ i. cond ((tied_path f k q ∙ (eq_by_cmp_equiv nat_list_cmp_total).symm k q) i) None (sym (get-as_map f q es h) i))
      ∙ sym (get-remove nat_list_cmp_total (as_map es) k q))

-- ---- two entries, of which one is cut

pub cut_first : {V : Type 0} (w : List ℕ) (a b : List ℕ × V) → T (is_sorted bytes_cmp (a ∷ b ∷ [])) → eq_by_cmp bytes_cmp w a.0 ≡ true
    → ◌≡◌ {A = List (List ℕ × V)} (cut w (a ∷ b ∷ [])) (b ∷ [])
cut_first {V} w a b s t =
    let same = tied_same w a.0 t in
    let apart : eq_by_cmp bytes_cmp w b.0 ≡ false = ap (λ x. eq_by_cmp bytes_cmp x b.0) same ∙ below (bytes_cmp a.0 b.0) s in
    (λ i. cond (not (t i)) (a ∷ cond (not (eq_by_cmp bytes_cmp w b.0)) (b ∷ []) []) (cond (not (eq_by_cmp bytes_cmp w b.0)) (b ∷ []) []))
    ∙ (λ i. cond (not (apart i)) (b ∷ []) [])
  where
    below : (o : Ordering) → T ((is_lt o && true) && (true && true)) → is_eq o ≡ false
    below Less h = refl
    below Equal h = absurd h
    below Greater h = refl

pub cut_second : {V : Type 0} (w : List ℕ) (a b : List ℕ × V) → eq_by_cmp bytes_cmp w a.0 ≡ false → is_some (find bytes_cmp w (a ∷ b ∷ [])) ≡ true
    → ◌≡◌ {A = List (List ℕ × V)} (cut w (a ∷ b ∷ [])) (a ∷ [])
cut_second {V} w a b t f =
    let left : is_some (cond (eq_by_cmp bytes_cmp w b.0) (Some b.1) None) ≡ true =
    ap (λ c. is_some (cond c (Some a.1) (cond (eq_by_cmp bytes_cmp w b.0) (Some b.1) None))) (sym t) ∙ f in
    let tie : eq_by_cmp bytes_cmp w b.0 ≡ true = found (eq_by_cmp bytes_cmp w b.0) left in
    (λ i. cond (not (t i)) (a ∷ cond (not (tie i)) (b ∷ []) []) (cond (not (tie i)) (b ∷ []) []))
  where
    found : (c : Bool) → is_some {T = V} (cond c (Some b.1) None) ≡ true → c ≡ true
    found true h = refl
    found false h = cc
