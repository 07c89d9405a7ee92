-- The map of entries by path: what a look-up and a put by path are to it, and how many keys it has.
use Rattle.std.proofs.Common.{◌≡◌, ℕ, suc, ◌+◌, List, [], ◌∷◌, length, Bool, true, false, cond, Some, None, T, refl, sym, ◌∙◌, ap, arith}
use Rattle.std.specs.Prelude.{◌&&◌, is_some}
use Rattle.std.specs.declared.cmp.Ordering.{Ordering}
use Rattle.std.specs.declared.cmp.Ordering.TheVariants.{Less, Equal, Greater}
use Rattle.std.specs.Ordering.{is_lt, is_eq, eq_by_cmp}
use Rattle.std.specs.Cmp.Lexicographic.{nat_list_cmp_total}
use Rattle.std.specs.FinMap as finite
use Rattle.std.specs.FinMap.{get-insert, get-from_entries, len-insert, len-empty, same_map, nat_cmp-IsAntisymmetric, slice_cmp-IsAntisymmetric}
use Rattle.std.specs.FinMap.Entries.{by_order, put, find, is_sorted, below_all, find-put}
use Rattle.dots.specs.Bytes.{bytes_cmp}
use Rattle.hash_path.specs.Word.{key_in}
use Rattle.hash_path.specs.Map.{path, key_of, HashedBy, by_key, as_map}
use Rattle.hash_path.proofs.Words.{key_in-word, tied_by}

pub tied_path : (f : List ℕ → ℕ) (k l : List ℕ) → eq_by_cmp bytes_cmp (path f k) (path f l) ≡ eq_by_cmp bytes_cmp k l
tied_path f k l =
    tied_by (path f k) (path f l) k l
    (λ e. sym (key_in-word 7 (f k) k) ∙ ap (key_in 7) e ∙ key_in-word 7 (f l) l)
    (λ e. ap (path f) e)

pub is_path : (f : List ℕ → ℕ) (k : List ℕ) → path f k ≡ path f (key_of (path f k))
is_path f k = ap (path f) (sym (key_in-word 7 (f k) k))

is_less : (o : Ordering) → T (is_lt o) → is_eq o ≡ false
is_less Less t = refl
is_less Equal t = absurd t
is_less Greater t = absurd t

first : (a b : Bool) → T (a && b) → T a
first true b p = tt
first false b p = p

second : (a b : Bool) → T (a && b) → T b
second true b p = p
second false b p = absurd p

module _ {V : Type 0} (f : List ℕ → ℕ) where
  find-by_key : (k : List ℕ) (es : List (List ℕ × V)) → HashedBy f es → find bytes_cmp k (by_key 7 es) ≡ find bytes_cmp (path f k) es
  find-by_key k [] h = refl
  find-by_key k (e ∷ es) h =
      let same : eq_by_cmp bytes_cmp k (key_of e.0) ≡ eq_by_cmp bytes_cmp (path f k) e.0 = sym (tied_path f k (key_of e.0))
      ∙ ap (eq_by_cmp bytes_cmp (path f k)) (sym h.0) in
      let rest = find-by_key k es h.1 in
      λ i. cond (same i) (Some e.1) (rest i)

  pub get-as_map : (k : List ℕ) (es : List (List ℕ × V)) → HashedBy f es → finite.get (as_map es) k ≡ find bytes_cmp (path f k) es
  get-as_map k es h = get-from_entries nat_list_cmp_total (by_key 7 es) k ∙ find-by_key k es h

  pub HashedBy-put : (k : List ℕ) (v : V) (es : List (List ℕ × V)) → HashedBy f es → HashedBy f (put bytes_cmp (path f k) v es)
  HashedBy-put k v [] h = (is_path f k, tt)
  HashedBy-put k v (e ∷ es) h = step (bytes_cmp (path f k) e.0) (HashedBy-put k v es h.1)
    where
      step : (o : Ordering) → HashedBy f (put bytes_cmp (path f k) v es)
          → HashedBy f (by_order o ((path f k, v) ∷ e ∷ es) ((e.0, v) ∷ es) (e ∷ put bytes_cmp (path f k) v es))
      step Less rest = (is_path f k, h)
      step Equal rest = h
      step Greater rest = (h.0, rest)

  pub as_map-put : (k : List ℕ) (v : V) (es : List (List ℕ × V)) → HashedBy f es → as_map (put bytes_cmp (path f k) v es) ≡ finite.insert (as_map es) k v
  as_map-put k v es h =
      same_map nat_list_cmp_total (slice_cmp-IsAntisymmetric nat_cmp-IsAntisymmetric) _ _
      (λ q. get-as_map q (put bytes_cmp (path f k) v es) (HashedBy-put k v es h) ∙ find-put bytes_cmp nat_list_cmp_total (path f q) (path f k) v es
      ∙ (λ i. cond (tied_path f q k i) (Some v) (sym (get-as_map q es h) i)) ∙ sym (get-insert nat_list_cmp_total (as_map es) k v q))

  -- ---- how many

  none_below : (w : List ℕ) (es : List (List ℕ × V)) → T (below_all bytes_cmp w es) → find bytes_cmp w es ≡ None
  none_below w [] t = refl
  none_below w (e ∷ es) t =
      ap (λ b. cond b (Some e.1) (find bytes_cmp w es)) (is_less (bytes_cmp w e.0) (first (is_lt (bytes_cmp w e.0)) (below_all bytes_cmp w es) t))
      ∙ none_below w es (second (is_lt (bytes_cmp w e.0)) (below_all bytes_cmp w es) t)

  pub len-as_map : (es : List (List ℕ × V)) → HashedBy f es → T (is_sorted bytes_cmp es) → finite.len (as_map es) ≡ length es
  len-as_map [] h s = len-empty bytes_cmp V
  len-as_map (e ∷ es) h s =
      let none : finite.get (as_map es) (key_of e.0) ≡ None =
      get-as_map (key_of e.0) es h.1 ∙ ap (λ w. find bytes_cmp w es) (sym h.0)
      ∙ none_below e.0 es (first (below_all bytes_cmp e.0 es) (is_sorted bytes_cmp es) s) in
      len-insert nat_list_cmp_total (as_map es) (key_of e.0) e.1 ∙ ap (λ o. cond (is_some o) (finite.len (as_map es)) (finite.len (as_map es) + 1)) none
      ∙ ap (λ n. n + 1) (len-as_map es h.1 (second (below_all bytes_cmp e.0 es) (is_sorted bytes_cmp es) s)) ∙ one_more (length es)
    where
      one_more : (n : ℕ) → n + 1 ≡ suc n
      one_more n = omega arith
