-- Putting a word into a list is an edit at its rank.
use Rattle.std.proofs.Common.{◌≡◌, ℕ, suc, ◌<◌, ◌≤◌, List, [], ◌∷◌, length, get_or, set, true, false, arith, refl, sym, ◌∙◌, ap}
use Rattle.std.specs.List.{insert}
use Rattle.std.specs.declared.cmp.Ordering.{Ordering}
use Rattle.std.specs.declared.cmp.Ordering.TheVariants.{Less, Equal, Greater}
use Rattle.std.specs.Ordering.{is_eq, is_gt}
use Rattle.std.specs.FinMap.Entries.{by_order, put}
use Rattle.dots.specs.Bytes.{bytes_cmp}
use Rattle.hash_path.specs.Rank.{rank}
use Rattle.hash_path.proofs.Words.{tied_same}

module _ {V : Type 0} (w : List ℕ) (v : V) where
  set_step : (d e : List ℕ × V) (es : List (List ℕ × V)) (o : Ordering) → bytes_cmp w e.0 ≡ o
      → (is_eq (bytes_cmp w (get_or es (rank w es) d).0) ≡ true → rank w es < length es → put bytes_cmp w v es ≡ set es (rank w es) (w, v))
      → is_eq (bytes_cmp w (get_or (e ∷ es) (by_order o 0 0 (suc (rank w es))) d).0) ≡ true → by_order o 0 0 (suc (rank w es)) < suc (length es)
      → by_order o ((w, v) ∷ e ∷ es) ((e.0, v) ∷ es) (e ∷ put bytes_cmp w v es) ≡ set (e ∷ es) (by_order o 0 0 (suc (rank w es))) (w, v)
  set_step d e es Less p rest t h = let no : is_eq Less ≡ true = ap is_eq (sym p) ∙ t in cc
  set_step d e es Equal p rest t h = let same = tied_same w e.0 t in λ i. (sym same i, v) ∷ es
  set_step d e es Greater p rest t h = ap (λ l. e ∷ l) (rest t (omega arith))

  pub put_set : (d : List ℕ × V) (es : List (List ℕ × V)) → is_eq (bytes_cmp w (get_or es (rank w es) d).0) ≡ true → rank w es < length es
      → put bytes_cmp w v es ≡ set es (rank w es) (w, v)
  put_set d [] t h = absurd (omega arith)
  put_set d (e ∷ es) t h = set_step d e es (bytes_cmp w e.0) refl (put_set d es) t h

  insert_step : (d e : List ℕ × V) (es : List (List ℕ × V)) (o : Ordering) → bytes_cmp w e.0 ≡ o
      → ((rank w es < length es → is_eq (bytes_cmp w (get_or es (rank w es) d).0) ≡ false) → put bytes_cmp w v es ≡ insert es (rank w es) (w, v))
      → (by_order o 0 0 (suc (rank w es)) < suc (length es) → is_eq (bytes_cmp w (get_or (e ∷ es) (by_order o 0 0 (suc (rank w es))) d).0) ≡ false)
      → by_order o ((w, v) ∷ e ∷ es) ((e.0, v) ∷ es) (e ∷ put bytes_cmp w v es) ≡ insert (e ∷ es) (by_order o 0 0 (suc (rank w es))) (w, v)
  insert_step d e es Less p rest t = refl
  insert_step d e es Equal p rest t = let no : is_eq Equal ≡ false = ap is_eq (sym p) ∙ t (omega arith) in cc
  insert_step d e es Greater p rest t = ap (λ l. e ∷ l) (rest (λ h. t (omega (arith, h))))

  pub put_insert : (d : List ℕ × V) (es : List (List ℕ × V)) → (rank w es < length es → is_eq (bytes_cmp w (get_or es (rank w es) d).0) ≡ false)
      → put bytes_cmp w v es ≡ insert es (rank w es) (w, v)
  put_insert d [] t = refl
  put_insert d (e ∷ es) t = insert_step d e es (bytes_cmp w e.0) refl (put_insert d es) t

  pub rank_le : (es : List (List ℕ × V)) → rank w es ≤ length es
  rank_le [] = omega arith
  rank_le (e ∷ es) = step (bytes_cmp w e.0) (rank_le es)
    where
      step : (o : Ordering) → rank w es ≤ length es → by_order o 0 0 (suc (rank w es)) ≤ suc (length es)
      step Less h = omega arith
      step Equal h = omega arith
      step Greater h = omega arith

  rank_past : (e : List ℕ × V) (es : List (List ℕ × V)) (o : Ordering) → is_gt o ≡ true → by_order o 0 0 (suc (rank w es)) ≡ suc (rank w es)
  rank_past e es Less t = cc
  rank_past e es Equal t = cc
  rank_past e es Greater t = refl

  rank_here : (e : List ℕ × V) (es : List (List ℕ × V)) (o : Ordering) → is_gt o ≡ false → by_order o 0 0 (suc (rank w es)) ≡ 0
  rank_here e es Less t = refl
  rank_here e es Equal t = refl
  rank_here e es Greater t = cc

  pub rank_more : (e : List ℕ × V) (es : List (List ℕ × V)) → is_gt (bytes_cmp w e.0) ≡ true → rank w (e ∷ es) ≡ suc (rank w es)
  rank_more e es t = rank_past e es (bytes_cmp w e.0) t

  pub rank_none : (e : List ℕ × V) (es : List (List ℕ × V)) → is_gt (bytes_cmp w e.0) ≡ false → rank w (e ∷ es) ≡ 0
  rank_none e es t = rank_here e es (bytes_cmp w e.0) t
