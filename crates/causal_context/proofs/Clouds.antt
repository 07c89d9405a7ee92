-- Clouds, read by the test of their dots.
use Rattle.std.proofs.Common.{◌≡◌, ℕ, ◌≤◌, ◌<◌, Bool, true, false, ◌||◌, ◌&&◌, not, cond, List, [], ◌∷◌, ◌++◌, length, get_or, refl, sym, ap, subst, ◌∙◌, arith}
use Rattle.std.proofs.Common.{eqb, ltb, leb, ◌+◌}
use Rattle.std.specs.Prelude.{IsTrue}
use Rattle.std.specs.declared.cmp.Ordering.{Ordering}
use Rattle.std.specs.declared.cmp.Ordering.TheVariants.{Less, Equal, Greater}
use Rattle.std.specs.Ordering.{is_eq, is_gt, is_lt, nat_cmp, ordering_then}
use Rattle.std.specs.Cmp.{nat_eq_equiv}
use Rattle.std.specs.List.{list_any, filter}
use Rattle.std.specs.List.Sorted.{IsStrictlySortedBy}
use Rattle.std.specs.BTreeMap.{is_at}
use Rattle.std.specs.BTreeSet.{BTreeSet}
use Rattle.std.proofs.lemmas.Map.Lookups.{btree_set_from_contains}
use Rattle.std.proofs.lemmas.Bool.Decides.{nat_tests}
use Rattle.std.proofs.lemmas.Map.Keys.{le_from_not_gt}
use Rattle.std.proofs.lemmas.Map.Views.{any-filter_same}
use Rattle.std.proofs.lemmas.List.Folds.{list_any-append, list_any_at}
use Rattle.ordered_list.specs.Items.{is_among, is_between, IsLastUpTo}
use Rattle.dots.specs.Dot.{DotValue, same_dot}
use Rattle.causal_context.specs.Dots.{dot_cmp}
use Rattle.causal_context.specs.Context.{in_cloud, IsGreatest}
use Rattle.causal_context.specs.Run.{is_in_run}
use Rattle.causal_context.proofs.Dots.{dot_cmp_total, dot_exact, is_eq-dot_cmp, list_any-dot_cmp, same_dot-refl, same_from_test}

-- clouds that answer the same are one
pub cloud_from_test : (a b : List DotValue) → IsStrictlySortedBy dot_cmp a → IsStrictlySortedBy dot_cmp b
    → ((d : DotValue) → in_cloud a d ≡ in_cloud b d) → a ≡ b
cloud_from_test a b s t h =
    let set : List DotValue → BTreeSet DotValue = λ ds. record { keys = ds } in
    btree_set_from_contains dot_cmp_total (set a) (set b) s t (λ d. list_any-dot_cmp d a ∙ h d ∙ sym (list_any-dot_cmp d b)) dot_exact

or_false : (a b : Bool) → (a || (b || false)) ≡ (a || b)
or_false true b = refl
or_false false true = refl
or_false false false = refl

-- one more dot at the end
pub in_cloud-push : (xs : List DotValue) (x d : DotValue) → in_cloud (xs ++ x ∷ []) d ≡ (in_cloud xs d || same_dot d x)
in_cloud-push xs x d = list_any-append (same_dot d) xs (x ∷ []) ∙ or_false (in_cloud xs d) (same_dot d x)

-- a cloud with a dot has it
pub first_in_cloud : (x : DotValue) (xs : List DotValue) → IsTrue (in_cloud (x ∷ xs) x)
first_in_cloud x xs = rw (same_dot-refl x) refl

-- a dot that stands in the list is in the cloud
pub in_cloud_at : (ds : List DotValue) (i : ℕ) (d : DotValue) → i < length ds → d ≡ get_or ds i d → in_cloud ds d ≡ true
in_cloud_at ds i d l is = list_any_at (same_dot d) ds i d l (ap (same_dot d) (sym is) ∙ same_dot-refl d)

-- the dots that pass a test
pub in_cloud-filter : (p : DotValue → Bool) (ds : List DotValue) (d : DotValue) → in_cloud (filter p ds) d ≡ (p d && in_cloud ds d)
in_cloud-filter p ds d = any-filter_same (same_dot d) p (p d) (λ k t. ap p (sym (same_from_test d k t))) ds

between_by : (a b m n e : ℕ) → (not (is_lt (ordering_then (nat_cmp b a) (nat_cmp m (n + 1)))) && not (is_gt (ordering_then (nat_cmp b a) (nat_cmp m e))))
    ≡ (eqb a b && (ltb n m && leb m e))
between_by a b m n e = grind (arith, nat_tests)

pub and_turned : (a b : Bool) → (not a && b) ≡ (b && not a)
and_turned true true = refl
and_turned true false = refl
and_turned false true = refl
and_turned false false = refl

-- a run that is taken out of a cloud
pub run_taken : (dot low high : DotValue) (end : ℕ) (old new : List DotValue) → low ≡ record { name = dot.name; number = dot.number + 1 }
    → high ≡ record { name = dot.name; number = end }
    → new ≡ filter (λ x. not (is_between dot_cmp low high x)) old → (d : DotValue) → in_cloud new d ≡ (in_cloud old d && not (is_in_run dot end d))
run_taken dot low high end old new low_is high_is is d =
    let inside : is_between dot_cmp low high d ≡ is_in_run dot end d =
    ap (λ l. is_between dot_cmp l high d) low_is ∙ ap (λ h. is_between dot_cmp (record { name = dot.name; number = dot.number + 1 }) h d) high_is
    ∙ between_by dot.name d.name d.number dot.number end in
    ap (λ ds. in_cloud ds d) is ∙ in_cloud-filter (λ x. not (is_between dot_cmp low high x)) old d ∙ and_turned (is_between dot_cmp low high d) (in_cloud old d)
    ∙ ap (λ b. in_cloud old d && not b) inside

-- the last dot that is not above the last of a name
then_le : (o p : Ordering) → is_gt (ordering_then o p) ≡ false → is_gt o ≡ false
then_le Less p h = refl
then_le Equal p h = refl
then_le Greater p h = h

within : (a m n : ℕ) → m ≤ n → is_gt (ordering_then (nat_cmp a a) (nat_cmp m n)) ≡ false
within a m n l = grind (arith, nat_tests)

at_most : (a m n : ℕ) → is_gt (ordering_then (nat_cmp a a) (nat_cmp m n)) ≡ false → m ≤ n
at_most a m n l = grind (arith, nat_tests)

module _ (ds : List DotValue) (name top : ℕ) (high : DotValue) (high_is : high ≡ record { name = name; number = top })
    (bounded : (d : DotValue) → IsTrue (in_cloud ds d) → d.number ≤ top) where
  not_above : (m : ℕ) → IsTrue (in_cloud ds (record { name = name; number = m })) → is_gt (dot_cmp (record { name = name; number = m }) high) ≡ false
  not_above m h = rw high_is (within name m top (bounded (record { name = name; number = m }) h))

  among : (d : DotValue) → IsTrue (in_cloud ds d) → IsTrue (is_among dot_cmp ds d)
  among d h = list_any-dot_cmp d ds ∙ h

  pub greatest_from_last : (k : DotValue) → IsLastUpTo dot_cmp ds high k → k.name ≡ name → IsGreatest name (in_cloud ds) k.number
  greatest_from_last k last named =
      let at : ℕ → DotValue = λ n. record { name = n; number = k.number } in
      record {
        known = λ _. subst (λ n. IsTrue (in_cloud ds (at n))) named (sym (list_any-dot_cmp k ds) ∙ last.there);
        bound = λ m h.
            let q : DotValue = record { name = name; number = m } in
            at_most name m k.number (subst (λ n. is_gt (ordering_then (nat_cmp name n) (nat_cmp m k.number)) ≡ false) named
            (last.greatest q (among q h) (not_above m h)));
      }

  pub greatest_from_other : (k : DotValue) → IsLastUpTo dot_cmp ds high k → (k.name ≡ name → ⊥) → IsGreatest name (in_cloud ds) 0
  greatest_from_other k last other = record {
    known = λ l. absurd (omega arith);
    bound = λ m h.
        let q : DotValue = record { name = name; number = m } in
        let from = le_from_not_gt name k.name (then_le (nat_cmp name k.name) (nat_cmp m k.number) (last.greatest q (among q h) (not_above m h))) in
        let upto = le_from_not_gt k.name high.name (then_le (nat_cmp k.name high.name) (nat_cmp k.number high.number) last.within) in
        let high_name = ap (λ (d : DotValue). d.name) high_is in
        absurd (other (omega arith));
  }

  pub greatest_from_none : ((q : DotValue) → IsTrue (is_among dot_cmp ds q) → is_gt (dot_cmp q high) ≡ true) → IsGreatest name (in_cloud ds) 0
  greatest_from_none none = record {
    known = λ l. absurd (omega arith);
    bound = λ m h.
        let q : DotValue = record { name = name; number = m } in
        absurd (cc (not_above m h, none q (among q h)));
  }

cond_or : (a b : Bool) → cond a true b ≡ (a || b)
cond_or true b = refl
cond_or false b = refl

-- a dot that is put into an ordered set
pub added : (dot d : DotValue) (old new : List DotValue) → list_any (is_at (dot_cmp d)) new
    ≡ cond (is_eq (dot_cmp dot d)) true (list_any (is_at (dot_cmp d)) old)
    → in_cloud new d ≡ (same_dot dot d || in_cloud old d)
added dot d old new h =
    sym (list_any-dot_cmp d new) ∙ h ∙ ap (λ b. cond (is_eq (dot_cmp dot d)) true b) (list_any-dot_cmp d old)
    ∙ ap (λ b. cond b true (in_cloud old d)) (is_eq-dot_cmp dot d)
    ∙ cond_or (same_dot dot d) (in_cloud old d)

-- one dot is the other exactly where the other is the one
pub same_dot-comm : (d e : DotValue) → same_dot d e ≡ same_dot e d
same_dot-comm d e = ap (λ b. b && eqb d.number e.number) (nat_eq_equiv.symm d.name e.name)
    ∙ ap (λ b. eqb e.name d.name && b) (nat_eq_equiv.symm d.number e.number)

more_by : (base seen here : Bool) → (here || (base || seen)) ≡ (base || (seen || here))
more_by true true true = refl
more_by true true false = refl
more_by true false true = refl
more_by true false false = refl
more_by false true true = refl
more_by false true false = refl
more_by false false true = refl
more_by false false false = refl

-- a set that has what it had and the dots that were seen, once this one is added
pub added_more : (seen : List DotValue) (x : DotValue) (base old new : DotValue → Bool) → ((d : DotValue) → new d ≡ (same_dot x d || old d))
    → ((d : DotValue) → old d ≡ (base d || in_cloud seen d)) → (d : DotValue) → new d ≡ (base d || in_cloud (seen ++ x ∷ []) d)
added_more seen x base old new h k d =
    h d ∙ ap (λ b. same_dot x d || b) (k d) ∙ more_by (base d) (in_cloud seen d) (same_dot x d)
    ∙ ap (λ b. base d || (in_cloud seen d || b)) (same_dot-comm x d) ∙ ap (λ b. base d || b) (sym (in_cloud-push seen x d))

pub or_cases : (P : Type 0) (a b : Bool) → IsTrue (a || b) → (IsTrue a → P) → (IsTrue b → P) → P
or_cases P true b h left right = left refl
or_cases P false b h left right = right h

-- what holds of each dot that was seen, and of this one
pub every_more : (P : DotValue → Type 0) (seen : List DotValue) (x : DotValue) → ((d : DotValue) → IsTrue (in_cloud seen d) → P d) → P x
    → (d : DotValue) → IsTrue (in_cloud (seen ++ x ∷ []) d) → P d
every_more P seen x before here d h =
    or_cases (P d) (in_cloud seen d) (same_dot d x) (sym (in_cloud-push seen x d) ∙ h) (before d) (λ e. subst P (sym (same_from_test d x e)) here)
