-- The walk of the map of entries by path is these entries.
use Rattle.std.proofs.Common.{◌≡◌, ℕ, List, [], ◌∷◌, Bool, true, false, cond, T, Some, None, refl, sym, ◌∙◌, ap}
use Rattle.std.specs.Ordering.{eq_by_cmp}
use Rattle.std.specs.Cmp.Lexicographic.{nat_list_cmp_total}
use Rattle.std.specs.FinMap as finite
use Rattle.std.specs.FinMap.{get-entries, get-from_entries, entries_sorted, nat_cmp-IsAntisymmetric, slice_cmp-IsAntisymmetric}
use Rattle.std.specs.FinMap.Entries.{find, is_sorted, same_entries}
use Rattle.dots.specs.Bytes.{bytes_cmp}
use Rattle.hash_path.specs.Map.{path, key_of, HashedBy, by_key, as_map, with_path, by_path, walk}
use Rattle.hash_path.proofs.Maps.{get-as_map, is_path, tied_path}
use Rattle.hash_path.proofs.Words.{same_tied, tied_same}

module _ {V : Type 0} (f : List ℕ → ℕ) where
  HashedBy-with_path : (es : List (List ℕ × V)) → HashedBy f (with_path f es)
  HashedBy-with_path [] = tt
  HashedBy-with_path (e ∷ es) = (is_path f e.0, HashedBy-with_path es)

  -- a key is found at its path
  pub find-with_path : (k : List ℕ) (es : List (List ℕ × V)) → find bytes_cmp (path f k) (with_path f es) ≡ find bytes_cmp k es
  find-with_path k [] = refl
  find-with_path k (e ∷ es) =
      let rest = find-with_path k es in
      λ i. cond (tied_path f k e.0 i) (Some e.1) (rest i)

  -- nothing is found at a word that is no key's path
  pub find_off : (q : List ℕ) (es : List (List ℕ × V)) → HashedBy f es → eq_by_cmp bytes_cmp q (path f (key_of q)) ≡ false → find bytes_cmp q es ≡ None
  find_off q [] h no_path = refl
  find_off q (e ∷ es) h no_path = step (eq_by_cmp bytes_cmp q e.0) refl (find_off q es h.1 no_path)
    where
      step : (b : Bool) → eq_by_cmp bytes_cmp q e.0 ≡ b → find bytes_cmp q es ≡ None → cond b (Some e.1) (find bytes_cmp q es) ≡ None
      step true t rest =
          let same = tied_same q e.0 t in
          let is : q ≡ path f (key_of q) = same ∙ h.0 ∙ ap (λ w. path f (key_of w)) (sym same) in
          let tied : eq_by_cmp bytes_cmp q (path f (key_of q)) ≡ true = same_tied q (path f (key_of q)) is in
          cc
      step false t rest = rest

  found_alike : (q : List ℕ) (es : List (List ℕ × V)) → HashedBy f es → find bytes_cmp q (with_path f (finite.entries (as_map es))) ≡ find bytes_cmp q es
  found_alike q es h = step (eq_by_cmp bytes_cmp q (path f (key_of q))) refl
    where
      step : (b : Bool) → eq_by_cmp bytes_cmp q (path f (key_of q)) ≡ b → find bytes_cmp q (with_path f (finite.entries (as_map es))) ≡ find bytes_cmp q es
      step true t =
          let is = tied_same q (path f (key_of q)) t in
          ap (λ w. find bytes_cmp w (with_path f (finite.entries (as_map es)))) is ∙ find-with_path (key_of q) (finite.entries (as_map es))
          ∙ sym (get-entries (as_map es) (key_of q)) ∙ get-as_map f (key_of q) es h ∙ ap (λ w. find bytes_cmp w es) (sym is)
      step false t = find_off q (with_path f (finite.entries (as_map es))) (HashedBy-with_path (finite.entries (as_map es))) t ∙ sym (find_off q es h t)

  pub by_path_is : (es : List (List ℕ × V)) → HashedBy f es → T (is_sorted bytes_cmp es) → by_path f (as_map es) ≡ es
  by_path_is es h s =
      let m = with_path f (finite.entries (as_map es)) in
      same_entries bytes_cmp nat_list_cmp_total (slice_cmp-IsAntisymmetric nat_cmp-IsAntisymmetric) _ _
      (entries_sorted (finite.from_entries {R = bytes_cmp} m)) s
      (λ q. sym (get-entries (finite.from_entries {R = bytes_cmp} m) q) ∙ get-from_entries nat_list_cmp_total m q ∙ found_alike q es h)

  pub walk_is : (es : List (List ℕ × V)) → HashedBy f es → T (is_sorted bytes_cmp es) → walk f (as_map es) ≡ by_key 7 es
  walk_is es h s = ap (by_key 7) (by_path_is es h s)
