-- A list of items that ascend: places and gaps, and what an edit at one of them leaves.
use Rattle.std.proofs.Common.{◌≡◌, ℕ, zero, suc, ◌+◌, ◌<◌, ◌≤◌, Bool, true, false, not, ◌||◌, ◌&&◌, cond, List, [], ◌∷◌, ◌++◌, length, get_or, Result, Ok, Err}
use Rattle.std.proofs.Common.{refl, sym, ap, ◌∙◌, arith, subst, ⊎_elim}
use Rattle.std.specs.Prelude.{IfOk, IfErr, IsTrue, is_ok}
use Rattle.std.specs.declared.cmp.Ordering.{Ordering}
use Rattle.std.specs.declared.cmp.Ordering.TheVariants.{Less, Equal, Greater}
use Rattle.std.specs.Ordering.{is_eq, is_lt, is_gt, match_ordering}
use Rattle.std.specs.Cmp.{IsTotalOrder, eq_by_cmp_equiv, alike_right}
use Rattle.std.specs.List.{insert, filter, AllByRecursion, AllWithin, HoldsAt, IsAllAdjacentAnswer}
use Rattle.std.specs.List.Sorted.{IsStrictlySortedBy, IsSortedBy, IsBinarySearchResult, IsSearchInRange, IsPartitionedBy, IsPartitionPoint}
use Rattle.std.specs.BTreeMap.{is_at}
use Rattle.std.specs.BTreeSet.{insert_key}
use Rattle.std.proofs.lemmas.Bool.{cases_lt}
use Rattle.std.proofs.lemmas.Cmp.{tied_itself}
use Rattle.std.proofs.lemmas.List.{get_or_default}
use Rattle.std.proofs.lemmas.List.Folds.{Any-from_list_any, list_any_at}
use Rattle.std.proofs.lemmas.List.Sorted.{searchable_from_sorted}
use Rattle.std.proofs.lemmas.Map.Keys.{Less-from_sorted, sorted_from_all_adjacent}
use Rattle.std.proofs.lemmas.Map.Views.{any-filter_same}
use Rattle.ordered_list.specs.Items.{is_among, IsPlaceIn, IsGapIn, IsLastUpTo}
use Rattle.ordered_list.proofs.Places.{less_from_test, greater_from_less, less_from_greater, equal_turned, below_all}

module _ {T : Type 0} (cmp : T → T → Ordering) where
  pub ascends_empty : (xs : List T) → xs ≡ [] → IsStrictlySortedBy cmp xs
  unfolding IsStrictlySortedBy
  ascends_empty xs e = rw e tt

  head_below : (x : T) (xs : List T) → IsStrictlySortedBy cmp (x ∷ xs) → AllByRecursion (λ y. cmp x y ≡ Less) xs
  unfolding IsStrictlySortedBy
  head_below x xs s = s.0

  tail_ascends : (x : T) (xs : List T) → IsStrictlySortedBy cmp (x ∷ xs) → IsStrictlySortedBy cmp xs
  unfolding IsStrictlySortedBy
  tail_ascends x xs s = s.1

  item_below_at : (x : T) (xs : List T) (i : ℕ) (d : T) → AllByRecursion (λ y. cmp x y ≡ Less) xs → i < length xs → cmp x (get_or xs i d) ≡ Less
  item_below_at x [] i d a h = absurd (omega arith)
  item_below_at x (y ∷ ys) zero d a h = a.0
  item_below_at x (y ∷ ys) (suc i) d a h = item_below_at x ys i d a.1 (omega arith)

  not_among_below : (x : T) (xs : List T) → AllByRecursion (λ y. cmp x y ≡ Less) xs → is_among cmp xs x ≡ false
  not_among_below x [] a = refl
  not_among_below x (y ∷ ys) a = rw a.0 (not_among_below x ys a.1)

  module _ (item : T) where
    -- ---- where a place can be, and what an edit there is
    pub item_gap_within : (xs : List T) (i : ℕ) → IsGapIn cmp item xs i → i ≤ length xs
    item_gap_within [] i h = omega arith
    item_gap_within (x ∷ xs) zero h = omega arith
    item_gap_within (x ∷ xs) (suc i) h = let r = item_gap_within xs i h.1 in omega arith

    pub among_there : (xs : List T) (i : ℕ) → IsPlaceIn cmp item xs i → is_among cmp xs item ≡ true
    among_there [] i h = absurd h
    among_there (x ∷ xs) zero h = rw h refl
    among_there (x ∷ xs) (suc i) h = rw h.0 (among_there xs i h.1)

    pub insert_item_there : (xs : List T) (i : ℕ) → IsGapIn cmp item xs i → insert xs i item ≡ insert_key cmp xs item
    insert_item_there [] zero h = refl
    insert_item_there [] (suc i) h = absurd (omega arith)
    insert_item_there (x ∷ xs) zero h = rw h refl
    insert_item_there (x ∷ xs) (suc i) h = rw h.0 (ap (λ l. x ∷ l) (insert_item_there xs i h.1))

    pub insert_item_known : (xs : List T) (i : ℕ) → IsPlaceIn cmp item xs i → xs ≡ insert_key cmp xs item
    insert_item_known [] i h = absurd h
    insert_item_known (x ∷ xs) zero h = rw h refl
    insert_item_known (x ∷ xs) (suc i) h = rw h.0 (ap (λ l. x ∷ l) (insert_item_known xs i h.1))

  module _ (total : IsTotalOrder cmp) where
    pub not_among_in_gap : (item : T) (xs : List T) (i : ℕ) → IsStrictlySortedBy cmp xs → IsGapIn cmp item xs i → is_among cmp xs item ≡ false
    not_among_in_gap item [] i s h = refl
    not_among_in_gap item (x ∷ xs) zero s h = rw h (not_among_below item xs (below_all cmp total item x xs h (head_below x xs s)))
    not_among_in_gap item (x ∷ xs) (suc i) s h = rw h.0 (not_among_in_gap item xs i (tail_ascends x xs s) h.1)

    -- ---- what a search finds
    item_place_from_search : (item : T) (xs : List T) (i : ℕ) → IsStrictlySortedBy cmp xs → i < length xs → HoldsAt (λ y. cmp y item ≡ Equal) xs i
        → IsPlaceIn cmp item xs i
    item_place_from_search item [] i s h at = absurd (omega arith)
    item_place_from_search item (x ∷ xs) zero s h at = equal_turned cmp total x item (at x)
    item_place_from_search item (x ∷ xs) (suc i) s h at =
        let here : cmp x (get_or xs i x) ≡ Less = item_below_at x xs i x (head_below x xs s) (omega arith) in (
          greater_from_less cmp total x item (sym (alike_right total (get_or xs i x) item x (at x)) ∙ here),
          item_place_from_search item xs i (tail_ascends x xs s) (omega arith) at,
        )

    item_gap_from_search : (item : T) (xs : List T) (i : ℕ) → i ≤ length xs → AllWithin (λ y. cmp y item ≡ Less) xs 0 i
        → AllWithin (λ y. cmp y item ≡ Greater) xs i (length xs) → IsGapIn cmp item xs i
    item_gap_from_search item [] i h before after = omega arith
    item_gap_from_search item (x ∷ xs) zero h before after = less_from_greater cmp total x item (after 0 x (omega arith) (omega arith))
    item_gap_from_search item (x ∷ xs) (suc i) h before after = (
      greater_from_less cmp total x item (before 0 x (omega arith) (omega arith)),
      item_gap_from_search item xs i (omega arith) (λ j d low high. before (suc j) d (omega arith) (omega arith))
          (λ j d low high. after (suc j) d (omega arith) (omega arith)),
    )

    items_sorted : (xs : List T) → IsStrictlySortedBy cmp xs → IsSortedBy (λ a b. is_lt (cmp a b)) xs
    items_sorted xs s i d low high = ap is_lt (greater_from_less cmp total _ _ (Less-from_sorted cmp xs i (i + 1) d s (omega arith) high))

    pub item_searched_Ok : (item : T) (xs : List T) (r : Result ℕ ℕ) → IsStrictlySortedBy cmp xs → IsSearchInRange r (length xs)
        → IsBinarySearchResult (λ y. cmp y item) xs r → IfOk r (IsPlaceIn cmp item xs)
    item_searched_Ok item xs (Ok i) s range found = item_place_from_search item xs i s range found
    item_searched_Ok item xs (Err i) s range found = tt

    pub item_searched_Err : (item : T) (xs : List T) (r : Result ℕ ℕ) → IsStrictlySortedBy cmp xs → IsSearchInRange r (length xs)
        → IsBinarySearchResult (λ y. cmp y item) xs r → IfErr r (IsGapIn cmp item xs)
    item_searched_Err item xs (Ok i) s range found = tt
    item_searched_Err item xs (Err i) s range found =
        let parts = found (searchable_from_sorted total (λ x. x) xs item (items_sorted xs s)) in
        item_gap_from_search item xs i range parts.0 parts.1

    pub among_from_place : (item : T) (xs : List T) (r : Result ℕ ℕ) → IsStrictlySortedBy cmp xs → IfOk r (IsPlaceIn cmp item xs)
        → IfErr r (IsGapIn cmp item xs) → is_ok r ≡ is_among cmp xs item
    among_from_place item xs (Ok i) s found absent = sym (among_there item xs i found)
    among_from_place item xs (Err i) s found absent = sym (not_among_in_gap item xs i s absent)

    -- past the last item
    last_item_below : (x : T) (xs : List T) (last : T) → AllByRecursion (λ y. cmp x y ≡ Less) (xs ++ last ∷ []) → cmp x last ≡ Less
    last_item_below x [] last a = a.0
    last_item_below x (y ∷ ys) last a = last_item_below x ys last a.1

    pub item_gap_at_end : (item : T) (xs : List T) (last : T) → IsStrictlySortedBy cmp (xs ++ last ∷ []) → cmp last item ≡ Less
        → IsGapIn cmp item (xs ++ last ∷ []) (length (xs ++ last ∷ []))
    item_gap_at_end item [] last s h = (greater_from_less cmp total last item h, refl)
    item_gap_at_end item (x ∷ xs) last s h = (
      greater_from_less cmp total x item (total.trans x last item (last_item_below x xs last (head_below x (xs ++ last ∷ []) s)) h),
      item_gap_at_end item xs last (tail_ascends x (xs ++ last ∷ []) s) h,
    )

    -- ---- the items still ascend
    insert_key_all_by : (P : T → Type 0) (x : T) (xs : List T) (k : T) (o : Ordering) → AllByRecursion P (x ∷ xs) → P k → AllByRecursion P (insert_key cmp xs k)
        → AllByRecursion P (match_ordering o (k ∷ x ∷ xs) (x ∷ xs) (x ∷ insert_key cmp xs k))
    insert_key_all_by P x xs k Less a p rest = (p, a)
    insert_key_all_by P x xs k Equal a p rest = a
    insert_key_all_by P x xs k Greater a p rest = (a.0, rest)

    all_insert_key : (P : T → Type 0) (xs : List T) (k : T) → AllByRecursion P xs → P k → AllByRecursion P (insert_key cmp xs k)
    all_insert_key P [] k a p = (p, tt)
    all_insert_key P (x ∷ xs) k a p = insert_key_all_by P x xs k (cmp k x) a p (all_insert_key P xs k a.1 p)

    ascends_insert_key_by : (x : T) (xs : List T) (k : T) (o : Ordering) → cmp k x ≡ o → IsStrictlySortedBy cmp (x ∷ xs)
        → IsStrictlySortedBy cmp (insert_key cmp xs k)
        → IsStrictlySortedBy cmp (match_ordering o (k ∷ x ∷ xs) (x ∷ xs) (x ∷ insert_key cmp xs k))
    unfolding IsStrictlySortedBy
    ascends_insert_key_by x xs k Less h s rest = ((h, below_all cmp total k x xs h s.0), s)
    ascends_insert_key_by x xs k Equal h s rest = s
    ascends_insert_key_by x xs k Greater h s rest = (all_insert_key (λ y. cmp x y ≡ Less) xs k s.0 (less_from_greater cmp total k x h), rest)

    pub ascends_insert_key : (xs : List T) (k : T) → IsStrictlySortedBy cmp xs → IsStrictlySortedBy cmp (insert_key cmp xs k)
    unfolding IsStrictlySortedBy
    ascends_insert_key [] k s = (tt, tt)
    ascends_insert_key (x ∷ xs) k s = ascends_insert_key_by x xs k (cmp k x) refl s (ascends_insert_key xs k s.1)

    -- ---- what an insert leaves of each item
    either_by : (a b : Bool) (c : Bool) → (a || cond b true c) ≡ cond b true (a || c)
    either_by true true c = refl
    either_by true false c = refl
    either_by false true c = refl
    either_by false false c = refl

    twice_by : (b c : Bool) → (b || c) ≡ cond b true (b || c)
    twice_by true c = refl
    twice_by false c = refl

    head_by : (b c : Bool) → (b || c) ≡ cond b true c
    head_by true c = refl
    head_by false c = refl

    among_insert_by : (x : T) (xs : List T) (k q : T) (o : Ordering) → cmp k x ≡ o
        → is_among cmp (insert_key cmp xs k) q ≡ cond (is_eq (cmp k q)) true (is_among cmp xs q)
        → is_among cmp (match_ordering o (k ∷ x ∷ xs) (x ∷ xs) (x ∷ insert_key cmp xs k)) q ≡ cond (is_eq (cmp k q)) true (is_among cmp (x ∷ xs) q)
    among_insert_by x xs k q Less h rest = head_by (is_eq (cmp q k)) (is_among cmp (x ∷ xs) q)
        ∙ ap (λ b. cond b true (is_among cmp (x ∷ xs) q)) ((eq_by_cmp_equiv total).symm q k)
    among_insert_by x xs k q Equal h rest =
        let same : is_eq (cmp q x) ≡ is_eq (cmp k q) = (eq_by_cmp_equiv total).symm q x ∙ sym ((eq_by_cmp_equiv total).congr k x q (ap is_eq h)) in
        rw same (twice_by (is_eq (cmp k q)) (is_among cmp xs q))
    among_insert_by x xs k q Greater h rest = ap (λ b. is_eq (cmp q x) || b) rest ∙ either_by (is_eq (cmp q x)) (is_eq (cmp k q)) (is_among cmp xs q)

    pub among-insert_key : (xs : List T) (k q : T) → is_among cmp (insert_key cmp xs k) q ≡ cond (is_eq (cmp k q)) true (is_among cmp xs q)
    among-insert_key [] k q = head_by (is_eq (cmp q k)) false ∙ ap (λ b. cond b true false) ((eq_by_cmp_equiv total).symm q k)
    among-insert_key (x ∷ xs) k q = among_insert_by x xs k q (cmp k x) refl (among-insert_key xs k q)

    pub updated_insert_key : (old new : List T) (k : T) → new ≡ insert_key cmp old k → (q : T)
        → is_among cmp new q ≡ cond (is_eq (cmp k q)) true (is_among cmp old q)
    updated_insert_key old new k is q = rw is (among-insert_key old k q)

    -- ---- the test whether items ascend
    pub items_ascend_from_test : (xs : List T) → IsAllAdjacentAnswer (λ x y b. b ≡ is_lt (cmp x y)) xs true → IsStrictlySortedBy cmp xs
    items_ascend_from_test [] h = ascends_empty [] refl
    items_ascend_from_test (x ∷ xs) h = sorted_from_all_adjacent total (x ∷ xs) x (λ i high. less_from_test _ (sym (h i x high)))

    pub test_from_items_ascend : (xs : List T) → IsAllAdjacentAnswer (λ x y b. b ≡ is_lt (cmp x y)) xs false → IsStrictlySortedBy cmp xs → ⊥
    test_from_items_ascend [] h s = absurd (let low = h.1 in omega arith)
    test_from_items_ascend (x ∷ xs) h s =
        let less = Less-from_sorted cmp (x ∷ xs) h.0 (h.0 + 1) x s (omega arith) h.1 in
        let test = h.2 x in
        absurd (cc (test, ap is_lt less))

    -- ---- the greatest item up to another
    not_above_by : (x y high : T) → cmp x y ≡ Less → (o : Ordering) → cmp y high ≡ o → not (is_gt o) ≡ true → not (is_gt (cmp x high)) ≡ true
    not_above_by x y high h Less e t = ap (λ p. not (is_gt p)) (total.trans x y high h e)
    not_above_by x y high h Equal e t = ap (λ p. not (is_gt p)) (sym (alike_right total y high x e) ∙ h)
    not_above_by x y high h Greater e t = absurd (cc t)

    pub parted_at : (xs : List T) (high : T) → IsStrictlySortedBy cmp xs → IsPartitionedBy (λ y. not (is_gt (cmp y high))) xs
    parted_at xs high s i j d le l t = ⊎_elim
        (λ (less : i < j). not_above_by (get_or xs i d) (get_or xs j d) high (Less-from_sorted cmp xs i j d s less l) (cmp (get_or xs j d) high) refl t)
        (λ (more : j ≤ i). let same : j ≡ i = omega arith in subst (λ k. not (is_gt (cmp (get_or xs k d) high)) ≡ true) same t)
        (cases_lt i j)

    not_from_test : (b : Bool) → not b ≡ true → b ≡ false
    not_from_test true h = absurd (cc h)
    not_from_test false h = refl

    test_from_not : (b : Bool) → not b ≡ false → b ≡ true
    test_from_not true h = refl
    test_from_not false h = absurd (cc h)

    up_to : (xs : List T) (high q : T) (n : ℕ) (d : T) → IsStrictlySortedBy cmp xs → n < length xs
        → AllWithin (λ y. not (is_gt (cmp y high)) ≡ false) xs (n + 1) (length xs)
        → (k : ℕ) → k < length xs → is_eq (cmp q (get_or xs k d)) ≡ true → is_gt (cmp q high) ≡ false → is_gt (cmp q (get_or xs n d)) ≡ false
    up_to xs high q n d s l after k in' e t =
        let same = total.congr q (get_or xs k d) in
        let tied = equal_by (cmp q (get_or xs k d)) e in
        ⊎_elim
        (λ (less : k < n). ap is_gt (same (get_or xs n d) tied ∙ Less-from_sorted cmp xs k n d s less l))
        (λ (more : n ≤ k). ⊎_elim
        (λ (past : n < k).
        let above = test_from_not _ (after k d (omega arith) in') in
        absurd (cc (t, ap is_gt (same high tied), above)))
        (λ (not_past : k ≤ n). let at : k ≡ n = omega arith in ap is_gt (subst (λ j. cmp q (get_or xs j d) ≡ Equal) at tied))
        (cases_lt n k))
        (cases_lt k n)
      where
        equal_by : (o : Ordering) → is_eq o ≡ true → o ≡ Equal
        equal_by Less h = absurd (cc h)
        equal_by Equal h = refl
        equal_by Greater h = absurd (cc h)

    found_at : (xs : List T) (q d : T) (k : ℕ) (x : T) → k < length xs → get_or xs k x ≡ x → is_eq (cmp q x) ≡ true → is_eq (cmp q (get_or xs k d)) ≡ true
    found_at xs q d k x l is e = ap (λ y. is_eq (cmp q y)) (sym (get_or_default xs k x d l) ∙ is) ∙ e

    pub last_from_point : (xs : List T) (high item : T) (n : ℕ) → IsStrictlySortedBy cmp xs
        → IsPartitionPoint (λ y. not (is_gt (cmp y high)) ≡ true) (λ y. not (is_gt (cmp y high)) ≡ false) xs (n + 1)
        → n < length xs → item ≡ get_or xs n item → IsLastUpTo cmp xs high item
    last_from_point xs high item n s point l is =
        let here : is_eq (cmp item (get_or xs n item)) ≡ true = ap (λ x. is_eq (cmp item x)) (sym is) ∙ ap is_eq (tied_itself total item) in
        record {
          there = list_any_at (is_at (cmp item)) xs n item l here;
          within = subst (λ x. is_gt (cmp x high) ≡ false) (sym is) (not_from_test _ (point.0 n item (omega arith) (omega arith)));
          greatest = λ q among t.
              let at = Any-from_list_any (is_at (cmp q)) xs among in
              subst (λ x. is_gt (cmp q x) ≡ false) (sym is) (up_to xs high q n item s l point.1 at.0 at.2 (found_at xs q item at.0 at.1 at.2 at.3 at.4) t);
        }

    pub none_from_point : (xs : List T) (high : T) → AllWithin (λ y. not (is_gt (cmp y high)) ≡ false) xs 0 (length xs)
        → (q : T) → IsTrue (is_among cmp xs q) → is_gt (cmp q high) ≡ true
    none_from_point xs high after q among =
        let at = Any-from_list_any (is_at (cmp q)) xs among in
        let tied = equal_by (cmp q (get_or xs at.0 q)) (found_at xs q q at.0 at.1 at.2 at.3 at.4) in
        ap is_gt (total.congr q (get_or xs at.0 q) high tied) ∙ test_from_not _ (after at.0 q (omega arith) at.2)
      where
        equal_by : (o : Ordering) → is_eq o ≡ true → o ≡ Equal
        equal_by Less h = absurd (cc h)
        equal_by Equal h = refl
        equal_by Greater h = absurd (cc h)

    -- ---- what is left of each item where those that fail a test are taken out
    pub among-filter : (p : T → Bool) (xs : List T) (q : T) → ((x : T) → is_eq (cmp q x) ≡ true → p x ≡ p q)
        → is_among cmp (filter p xs) q ≡ (p q && is_among cmp xs q)
    among-filter p xs q same = any-filter_same (is_at (cmp q)) p (p q) same xs

    -- a set with one item more, which is taken from what is still to come
    taken_by : (b e k r o : Bool) → (k || (e || r)) ≡ o → b ≡ cond e true k → (b || r) ≡ o
    taken_by b true true r o h u = ap (λ x. x || r) u ∙ h
    taken_by b true false r o h u = ap (λ x. x || r) u ∙ h
    taken_by b false true r o h u = ap (λ x. x || r) u ∙ h
    taken_by b false false r o h u = ap (λ x. x || r) u ∙ h

    pub taken_more : (kept new : List T) (item : T) (left rest wanted : T → Bool) → ((q : T) → (is_among cmp kept q || left q) ≡ wanted q)
        → ((q : T) → left q ≡ (is_eq (cmp q item) || rest q))
        → ((q : T) → is_among cmp new q ≡ cond (is_eq (cmp item q)) true (is_among cmp kept q)) → (q : T) → (is_among cmp new q || rest q) ≡ wanted q
    taken_more kept new item left rest wanted before turn updates q =
        taken_by (is_among cmp new q) (is_eq (cmp q item)) (is_among cmp kept q) (rest q) (wanted q)
        (ap (λ b. is_among cmp kept q || b) (sym (turn q)) ∙ before q)
        (updates q ∙ ap (λ b. cond b true (is_among cmp kept q)) ((eq_by_cmp_equiv total).symm item q))

    or_assoc : (a b c : Bool) → (a || (b || c)) ≡ (b || (a || c))
    or_assoc true true c = refl
    or_assoc true false c = refl
    or_assoc false b c = refl

    -- the items of two lists are the first of the second, and the others
    pub from_second : (xs ys : List T) (y q : T) → (is_among cmp xs q || is_among cmp (y ∷ ys) q)
        ≡ (is_eq (cmp q y) || (is_among cmp xs q || is_among cmp ys q))
    from_second xs ys y q = or_assoc (is_among cmp xs q) (is_eq (cmp q y)) (is_among cmp ys q)

    or_grouped : (a b c : Bool) → ((a || b) || c) ≡ (a || (b || c))
    or_grouped true b c = refl
    or_grouped false b c = refl

    pub from_first : (xs ys : List T) (x q : T) → (is_among cmp (x ∷ xs) q || is_among cmp ys q) ≡ (is_eq (cmp q x) || (is_among cmp xs q || is_among cmp ys q))
    from_first xs ys x q = or_grouped (is_eq (cmp q x)) (is_among cmp xs q) (is_among cmp ys q)

    or_none : (a : Bool) → (a || (false || false)) ≡ a
    or_none true = refl
    or_none false = refl

    pub taken_all : (kept : List T) (rests : List T × List T) (wanted : T → Bool) → rests ≡ ([], [])
        → ((q : T) → (is_among cmp kept q || (is_among cmp rests.0 q || is_among cmp rests.1 q)) ≡ wanted q)
        → (q : T) → is_among cmp kept q ≡ wanted q
    taken_all kept rests wanted end h q =
        sym (or_none (is_among cmp kept q)) ∙ ap (λ (r : List T × List T). is_among cmp kept q || (is_among cmp r.0 q || is_among cmp r.1 q)) (sym end) ∙ h q
