-- The keys of one hash stand by their bytes in the walk of a map, and the children that are present by their indices.
use Rattle.std.proofs.Common.{◌≡◌, ℕ, zero, suc, ◌*◌, ◌^◌, ◌<◌, ◌≤◌, List, [], ◌∷◌, length, Bool, true, false, cond, T, Some, None, arith, refl, sym, ◌∙◌, ap}
use Rattle.std.proofs.Common.{subst}
use Rattle.std.specs.Prelude.{Option}
use Rattle.std.specs.declared.cmp.Ordering.TheVariants.{Less, Equal}
use Rattle.std.specs.Cmp.{nat_cmp_is}
use Rattle.std.specs.List.{AllByRecursion, filter}
use Rattle.std.specs.List.Sorted.{IsStrictlySortedBy}
use Rattle.std.specs.Map.{keys_of}
use Rattle.std.specs.Ordering.{nat_cmp, is_lt, ordering_then}
use Rattle.std.specs.FinMap as finite
use Rattle.std.specs.FinMap.{entries_sorted}
use Rattle.std.specs.FinMap.Entries.{is_sorted, below_all}
use Rattle.std.proofs.Math.Nat.{mod-eq_of_lt}
use Rattle.dots.specs.Bytes.{bytes_cmp}
use Rattle.hash_path.specs.Map.{path, key_of, HashedBy, by_key, by_path, with_path, walk_under}
use Rattle.hash_path.specs.Path.{indices}
use Rattle.hash_path.specs.PathLaws.{same_bits}
use Rattle.hash_path.specs.Summary.{one_present, present}
use Rattle.hash_path.specs.Word.{digit, word, begins}
use Rattle.gen_trie.proofs.Ordered as ordered
use Rattle.gen_trie.proofs.Ordered.{less_from, first_below, rest_below, first_sorted}
use Rattle.hash_path.proofs.Orders.{is_less}
use Rattle.hash_path.proofs.Parts.{HashedBy-by_path, begins-path}

-- words of one hash are ordered as their keys
one_word : (height hash : ℕ) (k l : List ℕ) → bytes_cmp (word height hash k) (word height hash l) ≡ bytes_cmp k l
one_word zero hash k l = ap (λ o. ordering_then o (bytes_cmp k l)) (sym (nat_cmp_is hash hash Equal refl))
one_word (suc below) hash k l =
    ap (λ o. ordering_then o (bytes_cmp (word below hash k) (word below hash l))) (sym (nat_cmp_is (digit below hash) (digit below hash) Equal refl))
    ∙ one_word below hash k l

module _ (f : List ℕ → ℕ) (bounded : (key : List ℕ) → f key < 2 ^ 32) (p : List ℕ) (deep : length p ≡ 7) where
  -- keys under a whole path have one hash
  one_hash : (k l : List ℕ) → begins p (path f k) ≡ true → begins p (path f l) ≡ true → f k ≡ f l
  one_hash k l a b =
      let short : length p ≤ 7 = omega (arith, deep) in
      let same : indices 7 (f k) ≡ indices 7 (f l) =
      ap (λ n. indices n (f k)) (sym deep) ∙ (begins-path f p k short).0 a ∙ sym ((begins-path f p l short).0 b) ∙ ap (λ n. indices n (f l)) deep in
      let small_k : f k < 2 ^ (5 * 7) = let small = bounded k in omega (arith, small) in
      let small_l : f l < 2 ^ (5 * 7) = let small = bounded l in omega (arith, small) in
      sym (mod-eq_of_lt small_k) ∙ same_bits 7 (f k) (f l) same ∙ mod-eq_of_lt small_l

  below_here : (k l w : List ℕ) → w ≡ path f l → begins p (path f k) ≡ true → begins p (path f l) ≡ true → T (is_lt (bytes_cmp (path f k) w))
      → bytes_cmp k l ≡ Less
  below_here k l w is a b less =
      sym (one_word 7 (f k) k l) ∙ ap (λ h. bytes_cmp (path f k) (word 7 h l)) (one_hash k l a b) ∙ ap (bytes_cmp (path f k)) (sym is)
      ∙ less_from (bytes_cmp (path f k) w) less

  module _ {V : Type 0} where
    below_rest : (k w : List ℕ) (es : List (List ℕ × V)) → w ≡ path f k → begins p (path f k) ≡ true → HashedBy f es → T (below_all bytes_cmp w es)
        → AllByRecursion (λ y. bytes_cmp k y ≡ Less) (keys_of (filter (λ e. begins p (path f e.0)) (by_key 7 es)))
    below_rest k w [] is here hashed below = tt
    below_rest k w (e ∷ es) is here hashed below =
        step (begins p (path f (key_of e.0))) refl (below_rest k w es is here hashed.1 (rest_below w e es below))
      where
        rest : List (List ℕ × V)
        rest = filter (λ e. begins p (path f e.0)) (by_key 7 es)

        step : (b : Bool) → begins p (path f (key_of e.0)) ≡ b → AllByRecursion (λ y. bytes_cmp k y ≡ Less) (keys_of rest)
            → AllByRecursion (λ y. bytes_cmp k y ≡ Less) (keys_of (cond b ((key_of e.0, e.1) ∷ rest) rest))
        step true there further =
            (below_here k (key_of e.0) e.0 hashed.0 here there (subst (λ v. T (is_lt (bytes_cmp v e.0))) is (first_below w e es below)), further)
        step false there further = further

    rest_sorted : (es : List (List ℕ × V)) → HashedBy f es → T (is_sorted bytes_cmp es)
        → IsStrictlySortedBy bytes_cmp (keys_of (filter (λ e. begins p (path f e.0)) (by_key 7 es)))
    unfolding IsStrictlySortedBy
    rest_sorted [] hashed sorted = tt
    rest_sorted (e ∷ es) hashed sorted =
        step (begins p (path f (key_of e.0))) refl (rest_sorted es hashed.1 (ordered.rest_sorted e es sorted))
      where
        rest : List (List ℕ × V)
        rest = filter (λ e. begins p (path f e.0)) (by_key 7 es)

        step : (b : Bool) → begins p (path f (key_of e.0)) ≡ b → IsStrictlySortedBy bytes_cmp (keys_of rest)
            → IsStrictlySortedBy bytes_cmp (keys_of (cond b ((key_of e.0, e.1) ∷ rest) rest))
        step true here further = (below_rest (key_of e.0) e.0 es hashed.0 here hashed.1 (first_sorted e es sorted), further)
        step false here further = further

    -- the keys under a whole path stand by their bytes
    pub keys_sorted : (m : finite.FinMap bytes_cmp V) → IsStrictlySortedBy bytes_cmp (keys_of (walk_under f p m))
    keys_sorted m = rest_sorted (by_path f m) (HashedBy-by_path f m) (entries_sorted (finite.from_entries {R = bytes_cmp} (with_path f (finite.entries m))))

-- ---- children that are present

module _ {M : Type 0} where
  above_all : (low : ℕ) (i n : ℕ) (g : ℕ → Option M) → low < i → AllByRecursion (λ y. nat_cmp low y ≡ Less) (keys_of (present i n g))
  above_all low i zero g less = tt
  above_all low i (suc n) g less = step (g i) (above_all low (suc i) n g (omega (arith, less)))
    where
      step : (o : Option M) → AllByRecursion (λ y. nat_cmp low y ≡ Less) (keys_of (present (suc i) n g))
          → AllByRecursion (λ y. nat_cmp low y ≡ Less) (keys_of (one_present i o (present (suc i) n g)))
      step None rest = rest
      step (Some x) rest = (is_less low i less, rest)

  pub present_sorted : (i n : ℕ) (g : ℕ → Option M) → IsStrictlySortedBy nat_cmp (keys_of (present i n g))
  unfolding IsStrictlySortedBy
  present_sorted i zero g = tt
  present_sorted i (suc n) g = step (g i) (present_sorted (suc i) n g)
    where
      step : (o : Option M) → IsStrictlySortedBy nat_cmp (keys_of (present (suc i) n g))
          → IsStrictlySortedBy nat_cmp (keys_of (one_present i o (present (suc i) n g)))
      step None rest = rest
      step (Some x) rest = (above_all i (suc i) n g (omega arith), rest)
