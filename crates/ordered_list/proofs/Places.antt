-- A list of entries whose keys ascend: places and gaps, and what an edit at one of them leaves.
use Rattle.std.proofs.Common.{◌≡◌, ℕ, zero, suc, ◌+◌, ◌<◌, ◌≤◌, Bool, true, false, cond, List, [], ◌∷◌, ◌++◌, length, get_or, set, take, Option, Some, None}
use Rattle.std.proofs.Common.{Result, Ok, Err, refl, sym, ap, ◌∙◌, arith, subst, below_more}
use Rattle.std.specs.Prelude.{IfOk, IfErr}
use Rattle.std.specs.declared.cmp.Ordering.{Ordering}
use Rattle.std.specs.declared.cmp.Ordering.TheVariants.{Less, Equal, Greater}
use Rattle.std.specs.Ordering.{is_eq, is_lt, ordering_reverse, match_ordering}
use Rattle.std.specs.Cmp.{IsTotalOrder, eq_by_cmp_equiv, alike_right}
use Rattle.std.specs.List.{insert, remove, All, AllByRecursion, AllWithin, HoldsAt, IsAllAdjacentAnswer}
use Rattle.std.specs.List.Sorted.{IsStrictlySortedBy, IsSortedBy, IsBinarySearchResult, IsSearchInRange}
use Rattle.std.specs.Map.{lookup, keys_of, remove_entry}
use Rattle.std.specs.BTreeMap.{is_at, insert_entry}
use Rattle.std.proofs.lemmas.List.{get_or-map, get_or_default, take_more}
use Rattle.std.proofs.lemmas.List.Sorted.{searchable_from_sorted}
use Rattle.std.proofs.lemmas.Map.{lookup-remove_entry}
use Rattle.std.proofs.lemmas.Map.Entries.{length-keys_of, lookup_from_place, place_from_lookup}
use Rattle.std.proofs.lemmas.Map.Keys.{Less-from_sorted, sorted_from_all_adjacent, IsDistinct-from_sorted}
use Rattle.std.proofs.lemmas.Option.{slice_get_read, slice_get_within, get_or_from_slice_get}
use Rattle.ordered_list.specs.Places.{value_at, IsPlaceOf, IsGapFor}

pub less_from_test : (o : Ordering) → is_lt o ≡ true → o ≡ Less
less_from_test Less h = refl
less_from_test Equal h = absurd (cc h)
less_from_test Greater h = absurd (cc h)

module _ {K : Type 0} (cmp : K → K → Ordering) (total : IsTotalOrder cmp) where
  pub greater_from_less : (x y : K) → cmp x y ≡ Less → cmp y x ≡ Greater
  greater_from_less x y h = total.antisymm y x ∙ ap ordering_reverse h

  pub less_from_greater : (x y : K) → cmp x y ≡ Greater → cmp y x ≡ Less
  less_from_greater x y h = total.antisymm y x ∙ ap ordering_reverse h

  pub equal_turned : (x y : K) → cmp x y ≡ Equal → cmp y x ≡ Equal
  equal_turned x y h = total.antisymm y x ∙ ap ordering_reverse h

  -- below a key is below all that come after it
  pub below_all : (x y : K) (ks : List K) → cmp x y ≡ Less → AllByRecursion (λ k. cmp y k ≡ Less) ks → AllByRecursion (λ k. cmp x k ≡ Less) ks
  below_all x y [] h a = tt
  below_all x y (k ∷ ks) h a = (total.trans x y k h a.0, below_all x y ks h a.1)

  apart_by : (k q x : K) → cmp k x ≡ Greater → is_eq (cmp q x) ≡ true → is_eq (cmp k q) ≡ true → ⊥
  apart_by k q x h a b =
      let same : is_eq (cmp k x) ≡ is_eq (cmp q x) = (eq_by_cmp_equiv total).congr k q x b in
      absurd (cc (same, a, ap is_eq h))

module _ {K V : Type 0} where
  -- a key that is below each key of the entries
  abbrev pub IsBelow : (K → K → Ordering) → K → List (K × V) → Type 0
  IsBelow cmp x es = AllByRecursion (λ k. cmp x k ≡ Less) (keys_of es)

  abbrev pub Ascends : (K → K → Ordering) → List (K × V) → Type 0
  Ascends cmp es = IsStrictlySortedBy cmp (keys_of es)

  module _ (cmp : K → K → Ordering) where
    pub ascends_none : (es : List (K × V)) → es ≡ [] → Ascends cmp es
    unfolding IsStrictlySortedBy
    ascends_none es e = rw e tt

    pub ascends_head : (e : K × V) (es : List (K × V)) → Ascends cmp (e ∷ es) → IsBelow cmp e.0 es
    unfolding IsStrictlySortedBy
    ascends_head e es s = s.0

    pub ascends_tail : (e : K × V) (es : List (K × V)) → Ascends cmp (e ∷ es) → Ascends cmp es
    unfolding IsStrictlySortedBy
    ascends_tail e es s = s.1

    pub below_at : (x : K) (es : List (K × V)) (i : ℕ) (d : K × V) → IsBelow cmp x es → i < length es → cmp x (get_or es i d).0 ≡ Less
    below_at x [] i d a h = absurd (omega arith)
    below_at x (e ∷ es) zero d a h = a.0
    below_at x (e ∷ es) (suc i) d a h = below_at x es i d a.1 (omega arith)

    pub not_found_below : (x : K) (es : List (K × V)) → IsBelow cmp x es → lookup (is_at (cmp x)) es ≡ None
    not_found_below x [] a = refl
    not_found_below x (e ∷ es) a = rw a.0 (not_found_below x es a.1)

  module _ (cmp : K → K → Ordering) (key : K) where
    -- ---- where a place can be
    pub place_within : (es : List (K × V)) (i : ℕ) → IsPlaceOf cmp key es i → i < length es
    place_within [] i h = absurd h
    place_within (e ∷ es) zero h = omega arith
    place_within (e ∷ es) (suc i) h = let r = place_within es i h.1 in omega arith

    pub gap_within : (es : List (K × V)) (i : ℕ) → IsGapFor cmp key es i → i ≤ length es
    gap_within [] i h = omega arith
    gap_within (e ∷ es) zero h = omega arith
    gap_within (e ∷ es) (suc i) h = let r = gap_within es i h.1 in omega arith

    -- ---- what is found, and what an edit there is
    pub found_there : (es : List (K × V)) (i : ℕ) (d : K × V) → IsPlaceOf cmp key es i → lookup (is_at (cmp key)) es ≡ Some (get_or es i d).1
    found_there [] i d h = absurd h
    found_there (e ∷ es) zero d h = rw h refl
    found_there (e ∷ es) (suc i) d h = rw h.0 (found_there es i d h.1)

    pub set_there : (es : List (K × V)) (i : ℕ) (d : K × V) (v : V) → IsPlaceOf cmp key es i → set es i ((get_or es i d).0, v) ≡ insert_entry cmp es key v
    set_there [] i d v h = absurd h
    set_there (e ∷ es) zero d v h = rw h refl
    set_there (e ∷ es) (suc i) d v h = rw h.0 (ap (λ l. e ∷ l) (set_there es i d v h.1))

    pub remove_there : (es : List (K × V)) (i : ℕ) → IsPlaceOf cmp key es i → remove es i ≡ remove_entry (is_at (cmp key)) es
    remove_there [] i h = absurd h
    remove_there (e ∷ es) zero h = rw h refl
    remove_there (e ∷ es) (suc i) h = rw h.0 (ap (λ l. e ∷ l) (remove_there es i h.1))

    pub insert_there : (es : List (K × V)) (i : ℕ) (v : V) → IsGapFor cmp key es i → insert es i (key, v) ≡ insert_entry cmp es key v
    insert_there [] zero v h = refl
    insert_there [] (suc i) v h = absurd (omega arith)
    insert_there (e ∷ es) zero v h = rw h refl
    insert_there (e ∷ es) (suc i) v h = rw h.0 (ap (λ l. e ∷ l) (insert_there es i v h.1))

    pub remove_nothing : (es : List (K × V)) → lookup (is_at (cmp key)) es ≡ None → remove_entry (is_at (cmp key)) es ≡ es
    remove_nothing [] h = refl
    remove_nothing (e ∷ es) h = remove_by (is_eq (cmp key e.0)) e es h (remove_nothing es)
      where
        remove_by : (b : Bool) (e : K × V) (es : List (K × V)) → cond b (Some e.1) (lookup (is_at (cmp key)) es) ≡ None
            → (lookup (is_at (cmp key)) es ≡ None → remove_entry (is_at (cmp key)) es ≡ es)
            → cond b es (e ∷ remove_entry (is_at (cmp key)) es) ≡ e ∷ es
        remove_by true e es h rest = absurd (cc h)
        remove_by false e es h rest = ap (λ l. e ∷ l) (rest h)

  module _ (cmp : K → K → Ordering) (total : IsTotalOrder cmp) where
    pub not_found_in_gap : (key : K) (es : List (K × V)) (i : ℕ) → Ascends cmp es → IsGapFor cmp key es i → lookup (is_at (cmp key)) es ≡ None
    not_found_in_gap key [] i s h = refl
    not_found_in_gap key (e ∷ es) zero s h =
        rw h (not_found_below cmp key es (below_all cmp total key e.0 (keys_of es) h (ascends_head cmp e es s)))
    not_found_in_gap key (e ∷ es) (suc i) s h = rw h.0 (not_found_in_gap key es i (ascends_tail cmp e es s) h.1)

    -- ---- the keys still ascend
    insert_all_by : (P : K → Type 0) (e : K × V) (es : List (K × V)) (k : K) (v : V) (o : Ordering) → AllByRecursion P (keys_of (e ∷ es)) → P k
        → AllByRecursion P (keys_of (insert_entry cmp es k v))
        → AllByRecursion P (keys_of (match_ordering o ((k, v) ∷ e ∷ es) ((e.0, v) ∷ es) (e ∷ insert_entry cmp es k v)))
    insert_all_by P e es k v Less a p rest = (p, a)
    insert_all_by P e es k v Equal a p rest = a
    insert_all_by P e es k v Greater a p rest = (a.0, rest)

    all_insert : (P : K → Type 0) (es : List (K × V)) (k : K) (v : V) → AllByRecursion P (keys_of es) → P k
        → AllByRecursion P (keys_of (insert_entry cmp es k v))
    all_insert P [] k v a p = (p, tt)
    all_insert P (e ∷ es) k v a p = insert_all_by P e es k v (cmp k e.0) a p (all_insert P es k v a.1 p)

    ascends_insert_by : (e : K × V) (es : List (K × V)) (k : K) (v : V) (o : Ordering) → cmp k e.0 ≡ o → Ascends cmp (e ∷ es)
        → Ascends cmp (insert_entry cmp es k v)
        → Ascends cmp (match_ordering o ((k, v) ∷ e ∷ es) ((e.0, v) ∷ es) (e ∷ insert_entry cmp es k v))
    unfolding IsStrictlySortedBy
    ascends_insert_by e es k v Less h s rest = ((h, below_all cmp total k e.0 (keys_of es) h s.0), s)
    ascends_insert_by e es k v Equal h s rest = s
    ascends_insert_by e es k v Greater h s rest = (all_insert (λ y. cmp e.0 y ≡ Less) es k v s.0 (less_from_greater cmp total k e.0 h), rest)

    pub ascends_insert : (es : List (K × V)) (k : K) (v : V) → Ascends cmp es → Ascends cmp (insert_entry cmp es k v)
    unfolding IsStrictlySortedBy
    ascends_insert [] k v s = (tt, tt)
    ascends_insert (e ∷ es) k v s = ascends_insert_by e es k v (cmp k e.0) refl s (ascends_insert es k v s.1)

    remove_all_by : (P : K → Type 0) (test : K → Bool) (e : K × V) (es : List (K × V)) (b : Bool) → AllByRecursion P (keys_of (e ∷ es))
        → AllByRecursion P (keys_of (remove_entry test es))
        → AllByRecursion P (keys_of (cond b es (e ∷ remove_entry test es)))
    remove_all_by P test e es true a rest = a.1
    remove_all_by P test e es false a rest = (a.0, rest)

    all_remove : (P : K → Type 0) (test : K → Bool) (es : List (K × V)) → AllByRecursion P (keys_of es) → AllByRecursion P (keys_of (remove_entry test es))
    all_remove P test [] a = tt
    all_remove P test (e ∷ es) a = remove_all_by P test e es (test e.0) a (all_remove P test es a.1)

    ascends_remove_by : (test : K → Bool) (e : K × V) (es : List (K × V)) (b : Bool) → Ascends cmp (e ∷ es) → Ascends cmp (remove_entry test es)
        → Ascends cmp (cond b es (e ∷ remove_entry test es))
    unfolding IsStrictlySortedBy
    ascends_remove_by test e es true s rest = s.1
    ascends_remove_by test e es false s rest = (all_remove (λ y. cmp e.0 y ≡ Less) test es s.0, rest)

    pub ascends_remove : (test : K → Bool) (es : List (K × V)) → Ascends cmp es → Ascends cmp (remove_entry test es)
    unfolding IsStrictlySortedBy
    ascends_remove test [] s = tt
    ascends_remove test (e ∷ es) s = ascends_remove_by test e es (test e.0) s (ascends_remove test es s.1)

    -- ---- what an insert leaves at each key
    swap_by : (a b : Bool) (v w : V) (o : Option V) → (a ≡ true → b ≡ true → ⊥) → cond a (Some w) (cond b (Some v) o) ≡ cond b (Some v) (cond a (Some w) o)
    swap_by true true v w o h = absurd (h refl refl)
    swap_by true false v w o h = refl
    swap_by false true v w o h = refl
    swap_by false false v w o h = refl

    over_by : (b : Bool) (v w : V) (o : Option V) → cond b (Some v) o ≡ cond b (Some v) (cond b (Some w) o)
    over_by true v w o = refl
    over_by false v w o = refl

    insert_by : (e : K × V) (es : List (K × V)) (k q : K) (v : V) (o : Ordering) → cmp k e.0 ≡ o
        → lookup (is_at (cmp q)) (insert_entry cmp es k v) ≡ cond (is_eq (cmp k q)) (Some v) (lookup (is_at (cmp q)) es)
        → lookup (is_at (cmp q)) (match_ordering o ((k, v) ∷ e ∷ es) ((e.0, v) ∷ es) (e ∷ insert_entry cmp es k v))
        ≡ cond (is_eq (cmp k q)) (Some v) (lookup (is_at (cmp q)) (e ∷ es))
    insert_by e es k q v Less h rest = ap (λ b. cond b (Some v) (lookup (is_at (cmp q)) (e ∷ es))) ((eq_by_cmp_equiv total).symm q k)
    insert_by e es k q v Equal h rest =
        let same : is_eq (cmp q e.0) ≡ is_eq (cmp k q) = (eq_by_cmp_equiv total).symm q e.0 ∙ sym ((eq_by_cmp_equiv total).congr k e.0 q (ap is_eq h)) in
        rw same (over_by (is_eq (cmp k q)) v e.1 (lookup (is_at (cmp q)) es))
    insert_by e es k q v Greater h rest =
        ap (λ o. cond (is_eq (cmp q e.0)) (Some e.1) o) rest
        ∙ swap_by (is_eq (cmp q e.0)) (is_eq (cmp k q)) v e.1 (lookup (is_at (cmp q)) es) (apart_by cmp total k q e.0 h)

    pub lookup-insert_entry : (es : List (K × V)) (k q : K) (v : V) → lookup (is_at (cmp q)) (insert_entry cmp es k v)
        ≡ cond (is_eq (cmp k q)) (Some v) (lookup (is_at (cmp q)) es)
    lookup-insert_entry [] k q v = ap (λ b. cond b (Some v) None) ((eq_by_cmp_equiv total).symm q k)
    lookup-insert_entry (e ∷ es) k q v = insert_by e es k q v (cmp k e.0) refl (lookup-insert_entry es k q v)

    -- ---- what a search finds
    place_from_search : (key : K) (es : List (K × V)) (i : ℕ) → Ascends cmp es → i < length es → HoldsAt (λ e. cmp e.0 key ≡ Equal) es i
        → IsPlaceOf cmp key es i
    place_from_search key [] i s h at = absurd (omega arith)
    place_from_search key (e ∷ es) zero s h at = equal_turned cmp total e.0 key (at e)
    place_from_search key (e ∷ es) (suc i) s h at =
        let here : cmp e.0 (get_or es i e).0 ≡ Less = below_at cmp e.0 es i e (ascends_head cmp e es s) (omega arith) in (
          greater_from_less cmp total e.0 key (sym (alike_right total (get_or es i e).0 key e.0 (at e)) ∙ here),
          place_from_search key es i (ascends_tail cmp e es s) (omega arith) at,
        )

    gap_from_search : (key : K) (es : List (K × V)) (i : ℕ) → i ≤ length es → AllWithin (λ e. cmp e.0 key ≡ Less) es 0 i
        → AllWithin (λ e. cmp e.0 key ≡ Greater) es i (length es) → IsGapFor cmp key es i
    gap_from_search key [] i h before after = omega arith
    gap_from_search key (e ∷ es) zero h before after = less_from_greater cmp total e.0 key (after 0 e (omega arith) (omega arith))
    gap_from_search key (e ∷ es) (suc i) h before after = (
      greater_from_less cmp total e.0 key (before 0 e (omega arith) (omega arith)),
      gap_from_search key es i (omega arith) (λ j d low high. before (suc j) d (omega arith) (omega arith))
          (λ j d low high. after (suc j) d (omega arith) (omega arith)),
    )

    adjacent : (es : List (K × V)) (i j : ℕ) (d : K × V) → Ascends cmp es → i < j → j < length es → cmp (get_or es i d).0 (get_or es j d).0 ≡ Less
    adjacent es i j d s low high =
        let more : i < length es = omega arith in
        let len = length-keys_of es in
        let less = Less-from_sorted cmp (keys_of es) i j d.0 s low (rw len high) in
        rw (get_or-map (λ e. e.0) es i d d.0 more, get_or-map (λ e. e.0) es j d d.0 high) at less

    sorted_from_ascends : (es : List (K × V)) → Ascends cmp es → IsSortedBy (λ a b. is_lt (cmp a.0 b.0)) es
    sorted_from_ascends es s i d low high = ap is_lt (greater_from_less cmp total _ _ (adjacent es i (i + 1) d s (omega arith) high))

    pub searched_Ok : (key : K) (es : List (K × V)) (r : Result ℕ ℕ) → Ascends cmp es → IsSearchInRange r (length es)
        → IsBinarySearchResult (λ e. cmp e.0 key) es r → IfOk r (IsPlaceOf cmp key es)
    searched_Ok key es (Ok i) s range found = place_from_search key es i s range found
    searched_Ok key es (Err i) s range found = tt

    pub searched_Err : (key : K) (es : List (K × V)) (r : Result ℕ ℕ) → Ascends cmp es → IsSearchInRange r (length es)
        → IsBinarySearchResult (λ e. cmp e.0 key) es r → IfErr r (IsGapFor cmp key es)
    searched_Err key es (Ok i) s range found = tt
    searched_Err key es (Err i) s range found =
        let parts = found (searchable_from_sorted total (λ e. e.0) es key (sorted_from_ascends es s)) in
        gap_from_search key es i range parts.0 parts.1

    -- past the last key
    pub gap_at_end : (key : K) (es : List (K × V)) (last : K × V) → Ascends cmp (es ++ last ∷ []) → cmp last.0 key ≡ Less
        → IsGapFor cmp key (es ++ last ∷ []) (length (es ++ last ∷ []))
    gap_at_end key [] last s h = (greater_from_less cmp total last.0 key h, refl)
    gap_at_end key (e ∷ es) last s h = (
      greater_from_less cmp total e.0 key (total.trans e.0 last.0 key (last_below e.0 es last (ascends_head cmp e (es ++ last ∷ []) s)) h),
      gap_at_end key es last (ascends_tail cmp e (es ++ last ∷ []) s) h,
    )
      where
        last_below : (x : K) (es : List (K × V)) (last : K × V) → IsBelow cmp x (es ++ last ∷ []) → cmp x last.0 ≡ Less
        last_below x [] last a = a.0
        last_below x (e ∷ es) last a = last_below x es last a.1

    -- ---- the test whether keys ascend
    pub ascends_from_test : (es : List (K × V)) → IsAllAdjacentAnswer (λ x y b. b ≡ is_lt (cmp x.0 y.0)) es true → Ascends cmp es
    ascends_from_test [] h = ascends_none cmp [] refl
    ascends_from_test (e ∷ es) h =
        let all = e ∷ es in
        sorted_from_all_adjacent total (keys_of all) e.0
        (λ i high.
        let len = length-keys_of all in
        let upper : i + 1 < length all = rw (← len) high in
        let lower : i < length all = omega arith in
        rw (get_or-map (λ (p : K × V). p.0) all i e e.0 lower, get_or-map (λ (p : K × V). p.0) all (i + 1) e e.0 upper) (less_from_test _ (sym (h i e upper))))

    pub test_from_ascends : (es : List (K × V)) → IsAllAdjacentAnswer (λ x y b. b ≡ is_lt (cmp x.0 y.0)) es false → Ascends cmp es → ⊥
    test_from_ascends [] h s = absurd (let low = h.1 in omega arith)
    test_from_ascends (e ∷ es) h s =
        let less = adjacent (e ∷ es) h.0 (h.0 + 1) e s (omega arith) h.1 in
        let test = h.2 e in
        absurd (cc (test, ap is_lt less))

    -- ---- what an edit leaves at each key
    pub updated_insert : (old new : List (K × V)) (k : K) (v : V) → new ≡ insert_entry cmp old k v → (q : K)
        → value_at cmp new q ≡ cond (is_eq (cmp k q)) (Some v) (value_at cmp old q)
    updated_insert old new k v is q = rw is (lookup-insert_entry old k q v)

    pub updated_remove : (old new : List (K × V)) (k : K) → Ascends cmp old → new ≡ remove_entry (is_at (cmp k)) old → (q : K)
        → value_at cmp new q ≡ cond (is_eq (cmp k q)) None (value_at cmp old q)
    updated_remove old new k s is q =
        rw is (lookup-remove_entry (eq_by_cmp_equiv total) (is_at (cmp k)) ((eq_by_cmp_equiv total).congr k) q old (IsDistinct-from_sorted cmp (keys_of old) s))

    -- the first entries with the next one are these with its value put at its key
    pub take_insert : (es : List (K × V)) (i : ℕ) (e : K × V) → Ascends cmp es → i < length es → e ≡ get_or es i e
        → take (i + 1) es ≡ insert_entry cmp (take i es) e.0 e.1
    take_insert [] i e s h is = absurd (omega arith)
    take_insert (x ∷ es) zero e s h is = ap (λ y. y ∷ []) (sym is)
    take_insert (x ∷ es) (suc i) e s h is =
        let more : i < length es = omega arith in
        let below : cmp x.0 e.0 ≡ Less = ap (λ y. cmp x.0 y.0) is ∙ below_at cmp x.0 es i e (ascends_head cmp x es s) more in
        let up : suc i + 1 ≡ suc (i + 1) = omega arith in
        rw (up, greater_from_less cmp total x.0 e.0 below) (ap (λ l. x ∷ l) (take_insert es i e (ascends_tail cmp x es s) more is))

    -- an entry is what a look-up of its key finds
    pub item_found : (es : List (K × V)) (i : ℕ) (e : K × V) → Ascends cmp es → i < length es → e ≡ get_or es i e → value_at cmp es e.0 ≡ Some e.1
    item_found es i e s h is = lookup_from_place (eq_by_cmp_equiv total) es i e.0 e.1 (IsDistinct-from_sorted cmp (keys_of es) s)
        (slice_get_read es (length es) i e refl h is)

-- what holds of each entry holds of the one that a look-up finds
pub entry_found : {K V : Type 0} (P : K × V → Type 0) (test : K → Bool) (es : List (K × V)) (v : V) → All P es → lookup test es ≡ Some v → (k : K)
    × (test k ≡ true) × P (k, v)
entry_found P test es v all h =
    let place = place_from_lookup test es v h in
    let here : P (get_or es place.0 (place.1, v)) = all place.0 (place.1, v) (slice_get_within es place.0 (place.1, v) place.2) in
    (place.1, place.3, subst P (get_or_from_slice_get es place.0 (place.1, v) (place.1, v) place.2) here)

pub take_all : {X : Type 0} (xs : List X) (i : ℕ) → length xs ≤ i → take i xs ≡ xs
take_all [] zero h = refl
take_all [] (suc i) h = refl
take_all (x ∷ xs) zero h = absurd (omega arith)
take_all (x ∷ xs) (suc i) h = ap (λ l. x ∷ l) (take_all xs i (omega arith))

-- the first items and the next one
pub take_next : {X : Type 0} (xs : List X) (i : ℕ) (x : X) → i < length xs → x ≡ get_or xs i x → take (i + 1) xs ≡ take i xs ++ x ∷ []
take_next xs i x h is = take_more xs i x h ∙ ap (λ y. take i xs ++ y ∷ []) (sym is)

-- what holds of the first items holds of these and the next
pub items_more : {X : Type 0} (P : X → Type 0) (xs : List X) (i : ℕ) (x : X) → i < length xs → x ≡ get_or xs i x → ((k : ℕ) (d : X) → k < i → P (get_or xs k d))
    → P x → (k : ℕ) (d : X) → k < i + 1 → P (get_or xs k d)
items_more P xs i x h is before here k d below =
    below_more (λ j. P (get_or xs j d)) i (λ j. before j d) (subst P (is ∙ get_or_default xs i x d h) here) k below
