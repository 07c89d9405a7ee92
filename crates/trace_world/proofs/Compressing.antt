-- The version vector and the cloud of a set of known dots are those of its context: over plain variables.
use Rattle.std.proofs.Common.{◌≡◌, ◌≢◌, ℕ, zero, suc, ◌+◌, ◌<◌, ◌≤◌, ◌==◌, ◌&&◌, ◌||◌, nat_lt, nat_le, Bool, true, false, cond, List, [], ◌∷◌, Some, inl, inr}
use Rattle.std.proofs.Common.{IsTrue, refl, sym, ap, ◌∙◌, arith}
use Rattle.std.proofs.lemmas.Bool.Decides.{nat_tests}
use Rattle.std.proofs.lemmas.Bool.{cases_order}
use Rattle.std.specs.declared.cmp.Ordering.{Ordering}
use Rattle.std.specs.declared.cmp.Ordering.TheVariants.{Less, Equal, Greater}
use Rattle.std.specs.BTreeMap.{is_at}
use Rattle.std.specs.BTreeSet.{insert_key}
use Rattle.std.specs.Cmp.{IsTotalOrder, nat_cmp_total}
use Rattle.std.specs.List.{AllByRecursion, list_any}
use Rattle.std.specs.List.Sorted.{IsStrictlySortedBy}
use Rattle.std.specs.Map.{lookup, keys_of}
use Rattle.std.specs.Ordering.{match_ordering, nat_cmp, ordering_reverse}
use Rattle.std.proofs.lemmas.List.Kept.{IsStrictlySortedBy-filter}
use Rattle.std.proofs.lemmas.Map.Views.{any-filter_same}
use Rattle.std.proofs.lemmas.Option.{same_Some}
use Rattle.dots.specs.Dot.{DotValue, same_dot}
use Rattle.causal_context.specs.Dots.{dot_cmp}
use Rattle.delta_ops.proofs.Erasing.{has-insert}
use Rattle.causal_context.proofs.Dots.{dot_cmp_total}
use Rattle.causal_context.specs.Context.{ContextValue, known_up_to, in_cloud}
use Rattle.causal_context.specs.Context as context
use Rattle.causal_context.specs.Canonical.{IsCanonical, HasNoZero}
use Rattle.causal_context.proofs.Clouds.{cloud_from_test}
use Rattle.causal_context.proofs.Vectors.{vector_from_known}
use Rattle.op_model.specs.Made.{greatest_number}
use Rattle.op_model.specs.Operation.{has}
use Rattle.op_model.proofs.Dots.{same_dot-true, same_dot-symm, from_has}
use Rattle.op_model.proofs.Fresh.{greatest_number-above}
use Rattle.trace_world.specs.Compressed.{has_up_to, run_within, run_of, names_of, with_entry, run_entries, vector_of, in_order, cloud_of}

-- the number up to which all dots of a name pass the test
record IsTop (test : DotValue → Bool) (name n : ℕ) : Type 0 where
  known : (m : ℕ) → 1 ≤ m → m ≤ n → IsTrue (test (record { name = name; number = m }))
  stops : test (record { name = name; number = n + 1 }) ≡ false

not_both : (b : Bool) → b ≡ true → b ≡ false → ⊥
not_both true h k = cc
not_both false h k = cc

top_below : (test : DotValue → Bool) (name m n : ℕ) → IsTop test name m → IsTop test name n → m < n → ⊥
top_below test name m n top other below = not_both (test (record { name = name; number = m + 1 })) (other.known (m + 1) (omega arith) (omega arith)) top.stops

one_top : (test : DotValue → Bool) (name m n : ℕ) → IsTop test name m → IsTop test name n → m ≡ n
one_top test name m n top other =
    elim (cases_order m n) [
      | inl same ↦ same
      | inr apart ↦ elim apart [ inl below ↦ absurd (top_below test name m n top other below) | inr above ↦ absurd (top_below test name n m other top above) ]
    ]

-- the run of a name is that number
both_first : (a b : Bool) → (a && b) ≡ true → a ≡ true
both_first true b h = refl
both_first false b h = absurd cc

both_second : (a b : Bool) → (a && b) ≡ true → b ≡ true
both_second true b h = h
both_second false b h = absurd cc

both : (a b : Bool) → a ≡ true → b ≡ true → (a && b) ≡ true
both true true a b = refl
both true false a b = b
both false b a c = absurd cc

up_to_step : (dots : List DotValue) (name n m : ℕ) → has_up_to dots name (suc n) ≡ true → m ≤ suc n
    → (has_up_to dots name n ≡ true → m ≤ n → has dots (record { name = name; number = m }) ≡ true) → has dots (record { name = name; number = m }) ≡ true
up_to_step dots name n m all within before =
    let here = both_first (has dots (record { name = name; number = suc n })) (has_up_to dots name n) all in
    let below = both_second (has dots (record { name = name; number = suc n })) (has_up_to dots name n) all in
    elim (cases_order m (suc n)) [
      | inl same ↦ ap (λ k. has dots (record { name = name; number = k })) same ∙ here
      | inr apart ↦ elim apart [ inl less ↦ before below (omega arith) | inr more ↦ absurd (omega arith) ]
    ]

up_to-known : (dots : List DotValue) (name n m : ℕ) → has_up_to dots name n ≡ true → 1 ≤ m → m ≤ n → has dots (record { name = name; number = m }) ≡ true
up_to-known dots name zero m all first within = absurd (omega arith)
up_to-known dots name (suc n) m all first within = up_to_step dots name n m all within (λ below inside. up_to-known dots name n m below first inside)

within_step : (dots : List DotValue) (name n : ℕ) (b : Bool) → has_up_to dots name (suc n) ≡ b → has_up_to dots name (run_within dots name n) ≡ true
    → has_up_to dots name (cond b (suc n) (run_within dots name n)) ≡ true
within_step dots name n true is before = is
within_step dots name n false is before = before

within-all : (dots : List DotValue) (name n : ℕ) → has_up_to dots name (run_within dots name n) ≡ true
within-all dots name zero = refl
within-all dots name (suc n) = within_step dots name n (has_up_to dots name (suc n)) refl (within-all dots name n)

most_step : (dots : List DotValue) (name n m : ℕ) (b : Bool) → has_up_to dots name (suc n) ≡ b → m ≤ suc n → has_up_to dots name m ≡ true
    → (m ≤ n → m ≤ run_within dots name n) → m ≤ cond b (suc n) (run_within dots name n)
most_step dots name n m true is within all before = within
most_step dots name n m false is within all before =
    elim (cases_order m (suc n)) [
      | inl same ↦ absurd (not_both (has_up_to dots name (suc n)) (ap (has_up_to dots name) (sym same) ∙ all) is)
      | inr apart ↦ elim apart [ inl less ↦ before (omega arith) | inr more ↦ absurd (omega arith) ]
    ]

within-most : (dots : List DotValue) (name n m : ℕ) → m ≤ n → has_up_to dots name m ≡ true → m ≤ run_within dots name n
within-most dots name zero m within all = within
within-most dots name (suc n) m within all = most_step dots name n m (has_up_to dots name (suc n)) refl within all
    (λ inside. within-most dots name n m inside all)

stops_at : (dots : List DotValue) (name : ℕ) (b : Bool) → has dots (record { name = name; number = suc (run_of dots name) }) ≡ b → b ≡ false
stops_at dots name false is = refl
stops_at dots name true is =
    let run = run_of dots name in
    let all : has_up_to dots name (suc run) ≡ true = both (has dots (record { name = name; number = suc run })) (has_up_to dots name run) is
    (within-all dots name (greatest_number name dots)) in
    let bound = greatest_number-above name dots (record { name = name; number = suc run }) (from_has dots (record { name = name; number = suc run }) is) refl in
    let most = within-most dots name (greatest_number name dots) (suc run) bound all in
    absurd (omega (arith, most))

run_is_top : (dots : List DotValue) (name : ℕ) → IsTop (has dots) name (run_of dots name)
run_is_top dots name = record {
  known = λ m first within. up_to-known dots name (run_of dots name) m (within-all dots name (greatest_number name dots)) first within;
  stops =
      let next : run_of dots name + 1 ≡ suc (run_of dots name) = omega arith in
      ap (λ n. has dots (record { name = name; number = n })) next
      ∙ stops_at dots name (has dots (record { name = name; number = suc (run_of dots name) })) refl;
}

-- ordered lists with one more
module _ {K : Type 0} (cmp : K → K → Ordering) (total : IsTotalOrder cmp) where
  all_at : (P : K → Type 0) (k x : K) (xs more : List K) (o : Ordering) → P k → P x → AllByRecursion P xs → AllByRecursion P more
      → AllByRecursion P (match_ordering o (k ∷ x ∷ xs) (x ∷ xs) (x ∷ more))
  all_at P k x xs more Less p q all rest = (p, (q, all))
  all_at P k x xs more Equal p q all rest = (q, all)
  all_at P k x xs more Greater p q all rest = (q, rest)

  all_insert : (P : K → Type 0) (k : K) (ks : List K) → P k → AllByRecursion P ks → AllByRecursion P (insert_key cmp ks k)
  all_insert P k [] p all = (p, tt)
  all_insert P k (x ∷ xs) p all = all_at P k x xs (insert_key cmp xs k) (cmp k x) p all.0 all.1 (all_insert P k xs p all.1)

  above_all : (k y : K) (ys : List K) → cmp k y ≡ Less → AllByRecursion (λ z. cmp y z ≡ Less) ys → AllByRecursion (λ z. cmp k z ≡ Less) ys
  above_all k y [] below all = tt
  above_all k y (z ∷ zs) below all = (total.trans k y z below all.0, above_all k y zs below all.1)

  sorted_at : (k x : K) (xs : List K) (o : Ordering) → cmp k x ≡ o → IsStrictlySortedBy cmp (x ∷ xs) → IsStrictlySortedBy cmp (insert_key cmp xs k)
      → IsStrictlySortedBy cmp (match_ordering o (k ∷ x ∷ xs) (x ∷ xs) (x ∷ insert_key cmp xs k))
  unfolding IsStrictlySortedBy
  sorted_at k x xs Less is sorted rest = ((is, above_all k x xs is sorted.0), sorted)
  sorted_at k x xs Equal is sorted rest = sorted
  sorted_at k x xs Greater is sorted rest = (all_insert (λ y. cmp x y ≡ Less) k xs (total.antisymm x k ∙ ap ordering_reverse is) sorted.0, rest)

  sorted_tail : (x : K) (xs : List K) → IsStrictlySortedBy cmp (x ∷ xs) → IsStrictlySortedBy cmp xs
  unfolding IsStrictlySortedBy
  sorted_tail x xs sorted = sorted.1

  sorted_one : (k : K) → IsStrictlySortedBy cmp (k ∷ [])
  unfolding IsStrictlySortedBy
  sorted_one k = (tt, tt)

  sorted_insert : (k : K) (ks : List K) → IsStrictlySortedBy cmp ks → IsStrictlySortedBy cmp (insert_key cmp ks k)
  sorted_insert k [] sorted = sorted_one k
  sorted_insert k (x ∷ xs) sorted = sorted_at k x xs (cmp k x) refl sorted (sorted_insert k xs (sorted_tail x xs sorted))

sorted_none : {K : Type 0} (cmp : K → K → Ordering) → IsStrictlySortedBy cmp []
unfolding IsStrictlySortedBy
sorted_none cmp = tt

names_sorted : (dots : List DotValue) → IsStrictlySortedBy nat_cmp (names_of dots)
names_sorted [] = sorted_none nat_cmp
names_sorted (dot ∷ dots) = sorted_insert nat_cmp nat_cmp_total dot.name (names_of dots) (names_sorted dots)

dots_sorted : (dots : List DotValue) → IsStrictlySortedBy dot_cmp (in_order dots)
dots_sorted [] = sorted_none dot_cmp
dots_sorted (dot ∷ dots) = sorted_insert dot_cmp dot_cmp_total dot (in_order dots) (dots_sorted dots)

-- the entries stand in the order of their names
keys_above : (dots : List DotValue) (n k run : ℕ) (names : List ℕ) → nat_cmp n k ≡ Less
    → AllByRecursion (λ y. nat_cmp n y ≡ Less) (keys_of (run_entries dots names))
    → AllByRecursion (λ y. nat_cmp n y ≡ Less) (keys_of (with_entry k run (run_entries dots names)))
keys_above dots n k zero names below all = all
keys_above dots n k (suc run) names below all = (below, all)

entries_above : (dots : List DotValue) (n : ℕ) (names : List ℕ) → AllByRecursion (λ y. nat_cmp n y ≡ Less) names
    → AllByRecursion (λ y. nat_cmp n y ≡ Less) (keys_of (run_entries dots names))
entries_above dots n [] all = tt
entries_above dots n (k ∷ names) all = keys_above dots n k (run_of dots k) names all.0 (entries_above dots n names all.1)

entry_sorted : (dots : List DotValue) (k run : ℕ) (names : List ℕ) → IsStrictlySortedBy nat_cmp (k ∷ names)
    → IsStrictlySortedBy nat_cmp (keys_of (run_entries dots names))
    → IsStrictlySortedBy nat_cmp (keys_of (with_entry k run (run_entries dots names)))
unfolding IsStrictlySortedBy
entry_sorted dots k zero names sorted rest = rest
entry_sorted dots k (suc run) names sorted rest = (entries_above dots k names sorted.0, rest)

entries_sorted : (dots : List DotValue) (names : List ℕ) → IsStrictlySortedBy nat_cmp names → IsStrictlySortedBy nat_cmp (keys_of (run_entries dots names))
entries_sorted dots [] sorted = sorted_none nat_cmp
entries_sorted dots (k ∷ names) sorted = entry_sorted dots k (run_of dots k) names sorted
    (entries_sorted dots names (sorted_tail nat_cmp nat_cmp_total k names sorted))

-- what is found at a name
at_itself : (m n : ℕ) → is_at (nat_cmp m) n ≡ true → m ≡ n
at_itself m n is = grind (arith, nat_tests)

found_entry : (dots : List DotValue) (name k : ℕ) (names : List ℕ) (b : Bool) (run : ℕ) → is_at (nat_cmp name) k ≡ b → run_of dots k ≡ run
    → lookup (is_at (nat_cmp name)) (run_entries dots names) ≢ Some 0
    → known_up_to (run_entries dots names) name ≡ cond (list_any (is_at (nat_cmp name)) names) (run_of dots name) 0
    → (lookup (is_at (nat_cmp name)) (with_entry k run (run_entries dots names)) ≢ Some 0)
    × (known_up_to (with_entry k run (run_entries dots names)) name ≡ cond (b || list_any (is_at (nat_cmp name)) names) (run_of dots name) 0)
found_entry dots name k names true zero at is not_zero before =
    (not_zero, before ∙ either (list_any (is_at (nat_cmp name)) names) (run_of dots name) (ap (run_of dots) (at_itself name k at) ∙ is))
  where
    either : (b : Bool) (run : ℕ) → run ≡ 0 → cond b run 0 ≡ run
    either true run nothing = refl
    either false run nothing = sym nothing
found_entry dots name k names false zero at is not_zero before = (not_zero, before)
found_entry dots name k names true (suc run) at is not_zero before =
    rw at ((λ none. let gone : suc run ≡ 0 = same_Some (suc run) 0 none in absurd (omega arith)), sym (ap (run_of dots) (at_itself name k at) ∙ is))
found_entry dots name k names false (suc run) at is not_zero before = rw at (not_zero, before)

found_entries : (dots : List DotValue) (name : ℕ) (names : List ℕ)
    → (lookup (is_at (nat_cmp name)) (run_entries dots names) ≢ Some 0)
    × (known_up_to (run_entries dots names) name ≡ cond (list_any (is_at (nat_cmp name)) names) (run_of dots name) 0)
found_entries dots name [] = ((λ none. absurd cc), refl)
found_entries dots name (k ∷ names) =
    let before = found_entries dots name names in
    found_entry dots name k names (is_at (nat_cmp name) k) (run_of dots k) refl refl before.0 before.1

-- a name that has no dot here
any_at : (name n k : ℕ) (ks more : List ℕ) (o : Ordering) → nat_cmp n k ≡ o → list_any (is_at (nat_cmp name)) more
    ≡ (is_at (nat_cmp name) n || list_any (is_at (nat_cmp name)) ks)
    → list_any (is_at (nat_cmp name)) (match_ordering o (n ∷ k ∷ ks) (k ∷ ks) (k ∷ more))
    ≡ (is_at (nat_cmp name) n || (is_at (nat_cmp name) k || list_any (is_at (nat_cmp name)) ks))
any_at name n k ks more Less is rest = refl
any_at name n k ks more Equal is rest =
    let same : n ≡ k = grind (arith, nat_tests) in
    rw same (twice (is_at (nat_cmp name) k) (list_any (is_at (nat_cmp name)) ks))
  where
    twice : (b c : Bool) → (b || c) ≡ (b || (b || c))
    twice true c = refl
    twice false c = refl
any_at name n k ks more Greater is rest =
    ap (λ b. is_at (nat_cmp name) k || b) rest ∙ turned (is_at (nat_cmp name) k) (is_at (nat_cmp name) n) (list_any (is_at (nat_cmp name)) ks)
  where
    turned : (a b c : Bool) → (a || (b || c)) ≡ (b || (a || c))
    turned true true c = refl
    turned true false c = refl
    turned false true c = refl
    turned false false c = refl

any_insert : (name n : ℕ) (ks : List ℕ) → list_any (is_at (nat_cmp name)) (insert_key nat_cmp ks n)
    ≡ (is_at (nat_cmp name) n || list_any (is_at (nat_cmp name)) ks)
any_insert name n [] = refl
any_insert name n (k ∷ ks) = any_at name n k ks (insert_key nat_cmp ks n) (nat_cmp n k) refl (any_insert name n ks)

no_greatest : (name : ℕ) (dots : List DotValue) → list_any (is_at (nat_cmp name)) (names_of dots) ≡ false → greatest_number name dots ≡ 0
no_greatest name [] absent = refl
no_greatest name (dot ∷ dots) absent =
    let either = sym (any_insert name dot.name (names_of dots)) ∙ absent in
    let apart : (dot.name == name) ≡ false =
    not_at dot.name (or_first (is_at (nat_cmp name) dot.name) (list_any (is_at (nat_cmp name)) (names_of dots)) either) in
    rw apart (no_greatest name dots (or_second (is_at (nat_cmp name) dot.name) (list_any (is_at (nat_cmp name)) (names_of dots)) either))
  where
    not_at : (n : ℕ) → is_at (nat_cmp name) n ≡ false → (n == name) ≡ false
    not_at n at = grind (arith, nat_tests)

    or_first : (a b : Bool) → (a || b) ≡ false → a ≡ false
    or_first true b h = absurd cc
    or_first false b h = refl

    or_second : (a b : Bool) → (a || b) ≡ false → b ≡ false
    or_second true b h = absurd cc
    or_second false b h = h

-- the entry of each name is its run
known-vector_of : (dots : List DotValue) (name : ℕ) → known_up_to (vector_of dots) name ≡ run_of dots name
known-vector_of dots name = (found_entries dots name (names_of dots)).1 ∙ by (list_any (is_at (nat_cmp name)) (names_of dots)) refl
  where
    by : (b : Bool) → list_any (is_at (nat_cmp name)) (names_of dots) ≡ b → cond b (run_of dots name) 0 ≡ run_of dots name
    by true is = refl
    by false is = sym (ap (run_within dots name) (no_greatest name dots is))

no_zero-vector_of : (dots : List DotValue) → HasNoZero (vector_of dots)
no_zero-vector_of dots name = (found_entries dots name (names_of dots)).0

-- the cloud has the dots above the run of their name
has-in_order : (dots : List DotValue) (d : DotValue) → has (in_order dots) d ≡ has dots d
has-in_order [] d = refl
has-in_order (dot ∷ dots) d = has-insert dot (in_order dots) d ∙ ap (λ b. same_dot dot d || b) (has-in_order dots d)

cloud-has : (dots : List DotValue) (d : DotValue) → in_cloud dots d ≡ has dots d
cloud-has [] d = refl
cloud-has (dot ∷ dots) d = λ i. same_dot-symm d dot i || cloud-has dots d i

in-cloud_of : (dots : List DotValue) (d : DotValue) → in_cloud (cloud_of dots) d ≡ (nat_lt (run_of dots d.name) d.number && has dots d)
in-cloud_of dots d =
    any-filter_same (same_dot d) (λ dot. nat_lt (run_of dots dot.name) dot.number) (nat_lt (run_of dots d.name) d.number)
    (λ k same. ap (λ dot. nat_lt (run_of dots dot.name) dot.number) (sym (same_dot-true d k same))) (in_order dots)
    ∙ ap (λ b. nat_lt (run_of dots d.name) d.number && b) (cloud-has (in_order dots) d ∙ has-in_order dots d)

module _ (value : ContextValue) (canonical : IsCanonical value) (dots : List DotValue) (same : (d : DotValue) → context.has value d ≡ has dots d) where
  -- the entry of a name in a canonical form is the number up to which all its dots are known
  vector_top : (name : ℕ) → IsTop (has dots) name (known_up_to value.vector name)
  unfolding context.has
  vector_top name = record {
    known = λ m first within. sym (same (record { name = name; number = m }))
        ∙ below m (known_up_to value.vector name) (in_cloud value.cloud (record { name = name; number = m })) first within;
    stops =
        let d : DotValue = record { name = name; number = known_up_to value.vector name + 1 } in
        sym (same d) ∙ above (known_up_to value.vector name) (in_cloud value.cloud d) (λ there. let far = canonical.apart d there in omega (arith, far));
  }
    where
      below : (m top : ℕ) (b : Bool) → 1 ≤ m → m ≤ top → (nat_le 1 m && (nat_le m top || b)) ≡ true
      below m top true first within = grind (arith, nat_tests)
      below m top false first within = grind (arith, nat_tests)

      above : (top : ℕ) (b : Bool) → (b ≡ true → ⊥) → (nat_le 1 (top + 1) && (nat_le (top + 1) top || b)) ≡ false
      above top true apart = absurd (apart refl)
      above top false apart = grind (arith, nat_tests)

  entry_is : (name : ℕ) → known_up_to value.vector name ≡ run_of dots name
  entry_is name = one_top (has dots) name (known_up_to value.vector name) (run_of dots name) (vector_top name) (run_is_top dots name)

  cloud_is : (d : DotValue) → in_cloud value.cloud d ≡ (nat_lt (run_of dots d.name) d.number && has dots d)
  unfolding context.has
  cloud_is d =
      by (in_cloud value.cloud d) (known_up_to value.vector d.name) (run_of dots d.name) (entry_is d.name) (canonical.apart d)
      ∙ ap (λ b. nat_lt (run_of dots d.name) d.number && b) (same d)
    where
      by : (b : Bool) (top run : ℕ) → top ≡ run → (b ≡ true → top + 1 < d.number)
          → b ≡ (nat_lt run d.number && (nat_le 1 d.number && (nat_le d.number top || b)))
      by true top run is apart = let far = apart refl in grind (arith, nat_tests)
      by false top run is apart = go (nat_lt run d.number) refl
        where
          go : (above : Bool) → nat_lt run d.number ≡ above → false ≡ (above && (nat_le 1 d.number && (nat_le d.number top || false)))
          go true above = grind (arith, nat_tests)
          go false above = refl

  -- the vector and the cloud of a canonical form are those of its dots
  pub compressed_vector : value.vector ≡ vector_of dots
  compressed_vector =
      vector_from_known value.vector (vector_of dots) canonical.names_ascend (entries_sorted dots (names_of dots) (names_sorted dots)) canonical.no_zero
      (no_zero-vector_of dots)
      (λ name. entry_is name ∙ sym (known-vector_of dots name))

  pub compressed_cloud : value.cloud ≡ cloud_of dots
  compressed_cloud =
      cloud_from_test value.cloud (cloud_of dots) canonical.dots_ascend
      (IsStrictlySortedBy-filter dot_cmp (λ dot. nat_lt (run_of dots dot.name) dot.number) (in_order dots) (dots_sorted dots))
      (λ d. cloud_is d ∙ sym (in-cloud_of dots d))
