-- Version vectors, read as functions of the name.
use Rattle.std.proofs.Common.{◌≡◌, ◌≢◌, ℕ, ◌≤◌, Bool, true, false, cond, List, [], ◌∷◌, ◌++◌, Option, Some, None, refl, sym, ap, subst, ◌∙◌, ◌||◌, arith, eqb}
use Rattle.std.proofs.Common.{max, rules}
use Rattle.std.specs.Prelude.{IsTrue, IsSome, is_some, unwrap_or}
use Rattle.std.specs.Ordering.{is_eq, nat_cmp}
use Rattle.std.specs.declared.cmp.Ordering.{Ordering}
use Rattle.std.specs.declared.cmp.Ordering.TheVariants.{Less, Equal, Greater}
use Rattle.std.specs.Cmp.{nat_cmp_total}
use Rattle.std.specs.List.Sorted.{IsStrictlySortedBy}
use Rattle.std.specs.Map.{lookup, keys_of}
use Rattle.std.specs.BTreeMap.{is_at}
use Rattle.std.proofs.lemmas.Bool.Decides.{nat_tests}
use Rattle.std.proofs.lemmas.Map.Lookups.{exact_unsigned}
use Rattle.causal_context.specs.Context.{known_up_to}
use Rattle.causal_context.specs.Canonical.{HasNoZero}
use Rattle.causal_context.proofs.Entries.{entries_from_lookup}

pub is_eq-nat_cmp : (m n : ℕ) → is_eq (nat_cmp m n) ≡ eqb m n
is_eq-nat_cmp m n = grind (arith, nat_tests)

-- an entry put at a name
pub known_up_to-insert : (old new : List (ℕ × ℕ)) (name number q : ℕ) → lookup (is_at (nat_cmp q)) new
    ≡ cond (is_eq (nat_cmp name q)) (Some number) (lookup (is_at (nat_cmp q)) old)
    → known_up_to new q ≡ cond (eqb name q) number (known_up_to old q)
known_up_to-insert old new name number q h =
    ap (λ o. unwrap_or o 0) h ∙ at_name (eqb name q) (is_eq-nat_cmp name q)
  where
    at_name : (b : Bool) → is_eq (nat_cmp name q) ≡ b → unwrap_or (cond (is_eq (nat_cmp name q)) (Some number) (lookup (is_at (nat_cmp q)) old)) 0
        ≡ cond b number (known_up_to old q)
    at_name true e = rw e refl
    at_name false e = rw e refl

no_zero_by : (b : Bool) (number : ℕ) (o : Option ℕ) → 1 ≤ number → o ≢ Some 0 → cond b (Some number) o ≢ Some 0
no_zero_by true number o l h e = absurd (let k : number ≡ 0 = cc in omega arith)
no_zero_by false number o l h e = h e

pub HasNoZero-insert : (old new : List (ℕ × ℕ)) (name number : ℕ) → 1 ≤ number
    → ((q : ℕ) → lookup (is_at (nat_cmp q)) new ≡ cond (is_eq (nat_cmp name q)) (Some number) (lookup (is_at (nat_cmp q)) old))
    → HasNoZero old → HasNoZero new
HasNoZero-insert old new name number l h z q e = no_zero_by (is_eq (nat_cmp name q)) number (lookup (is_at (nat_cmp q)) old) l (z q) (sym (h q) ∙ e)

-- an entry that is taken out
pub known_up_to-remove : (old new : List (ℕ × ℕ)) (name q : ℕ) → lookup (is_at (nat_cmp q)) new
    ≡ cond (is_eq (nat_cmp name q)) None (lookup (is_at (nat_cmp q)) old)
    → known_up_to new q ≡ cond (eqb name q) 0 (known_up_to old q)
known_up_to-remove old new name q h =
    ap (λ o. unwrap_or o 0) h ∙ at_name (eqb name q) (is_eq-nat_cmp name q)
  where
    at_name : (b : Bool) → is_eq (nat_cmp name q) ≡ b → unwrap_or (cond (is_eq (nat_cmp name q)) None (lookup (is_at (nat_cmp q)) old)) 0
        ≡ cond b 0 (known_up_to old q)
    at_name true e = rw e refl
    at_name false e = rw e refl

no_zero_without : (b : Bool) (o : Option ℕ) → o ≢ Some 0 → cond b None o ≢ Some 0
no_zero_without true o h e = absurd (cc e)
no_zero_without false o h e = h e

pub HasNoZero-remove : (old new : List (ℕ × ℕ)) (name : ℕ)
    → ((q : ℕ) → lookup (is_at (nat_cmp q)) new ≡ cond (is_eq (nat_cmp name q)) None (lookup (is_at (nat_cmp q)) old))
    → HasNoZero old → HasNoZero new
HasNoZero-remove old new name h z q e = no_zero_without (is_eq (nat_cmp name q)) (lookup (is_at (nat_cmp q)) old) (z q) (sym (h q) ∙ e)

-- a name whose first dot is known has an entry
is_some_by : (o : Option ℕ) → 1 ≤ unwrap_or o 0 → IsSome o
is_some_by None l = absurd (omega arith)
is_some_by (Some n) l = refl

pub found_from_known : (es : List (ℕ × ℕ)) (name : ℕ) → 1 ≤ known_up_to es name → IsSome (lookup (is_at (nat_cmp name)) es)
found_from_known es name l = is_some_by (lookup (is_at (nat_cmp name)) es) l

pub HasNoZero-same : (old new : List (ℕ × ℕ)) → new ≡ old → HasNoZero old → HasNoZero new
HasNoZero-same old new e z = subst HasNoZero (sym e) z

no_zero_past : (b : Bool) (v : ℕ) (o p : Option ℕ) → cond b (Some v) o ≢ Some 0 → (o ≢ Some 0 → p ≢ Some 0) → cond b (Some v) p ≢ Some 0
no_zero_past true v o p h k = h
no_zero_past false v o p h k = k h

no_zero_last : (b : Bool) (v : ℕ) → v ≢ 0 → cond b (Some v) None ≢ Some 0
no_zero_last true v h e = h cc
no_zero_last false v h e = absurd (cc e)

-- one more entry at the end
pub no_zero-push : (xs : List (ℕ × ℕ)) (x : ℕ × ℕ) (q : ℕ) → lookup (is_at (nat_cmp q)) xs ≢ Some 0 → x.1 ≢ 0
    → lookup (is_at (nat_cmp q)) (xs ++ x ∷ []) ≢ Some 0
no_zero-push [] x q h k = no_zero_last (is_eq (nat_cmp q x.0)) x.1 k
no_zero-push (y ∷ ys) x q h k =
    no_zero_past (is_eq (nat_cmp q y.0)) y.1 (lookup (is_at (nat_cmp q)) ys) (lookup (is_at (nat_cmp q)) (ys ++ x ∷ [])) h (λ l. no_zero-push ys x q l k)

-- vectors with no zero that answer the same are one
option_from_number : (o p : Option ℕ) → o ≢ Some 0 → p ≢ Some 0 → unwrap_or o 0 ≡ unwrap_or p 0 → o ≡ p
option_from_number None None h k e = refl
option_from_number None (Some n) h k e = absurd (k (ap Some (sym e)))
option_from_number (Some m) None h k e = absurd (h (ap Some e))
option_from_number (Some m) (Some n) h k e = ap Some e

pub vector_from_known : (a b : List (ℕ × ℕ)) → IsStrictlySortedBy nat_cmp (keys_of a) → IsStrictlySortedBy nat_cmp (keys_of b) → HasNoZero a → HasNoZero b
    → ((name : ℕ) → known_up_to a name ≡ known_up_to b name) → a ≡ b
vector_from_known a b s t za zb h =
    entries_from_lookup nat_cmp_total exact_unsigned a b s t
    (λ q. option_from_number (lookup (is_at (nat_cmp q)) a) (lookup (is_at (nat_cmp q)) b) (za q) (zb q) (h q))

past : (b : Bool) (v : ℕ) (o p : Option ℕ) (n : ℕ) → unwrap_or (cond b (Some v) o) 0 ≤ n → (unwrap_or o 0 ≤ n → unwrap_or p 0 ≤ n)
    → unwrap_or (cond b (Some v) p) 0 ≤ n
past true v o p n h k = h
past false v o p n h k = k h

-- one more entry at the end leaves each name at most at n, where its own number is at most n
pub known_up_to-push_le : (xs : List (ℕ × ℕ)) (x : ℕ × ℕ) (q n : ℕ) → known_up_to xs q ≤ n → (x.0 ≡ q → x.1 ≤ n) → known_up_to (xs ++ x ∷ []) q ≤ n
known_up_to-push_le [] x q n h k = by_test (is_eq (nat_cmp q x.0)) (λ e. exact_unsigned q x.0 (equal_from_test (nat_cmp q x.0) e))
  where
    equal_from_test : (o : Ordering) → is_eq o ≡ true → o ≡ Equal
    equal_from_test Less h = absurd (cc h)
    equal_from_test Equal h = refl
    equal_from_test Greater h = absurd (cc h)

    by_test : (b : Bool) → (b ≡ true → q ≡ x.0) → unwrap_or (cond b (Some x.1) None) 0 ≤ n
    by_test true e = k (sym (e refl))
    by_test false e = omega arith
known_up_to-push_le (y ∷ ys) x q n h k = past (is_eq (nat_cmp q y.0)) y.1 (lookup (is_at (nat_cmp q)) ys) (lookup (is_at (nat_cmp q)) (ys ++ x ∷ [])) n h
    (λ l. known_up_to-push_le ys x q n l k)

-- a vector with an entry knows a first dot of that name
pub first_known : (x : ℕ × ℕ) (xs : List (ℕ × ℕ)) → HasNoZero (x ∷ xs) → 1 ≤ known_up_to (x ∷ xs) x.0
first_known x xs z = by_test (is_eq (nat_cmp x.0 x.0)) refl (is_eq-nat_cmp x.0 x.0 ∙ search rules)
  where
    by_test : (b : Bool) → is_eq (nat_cmp x.0 x.0) ≡ b → b ≡ true → 1 ≤ known_up_to (x ∷ xs) x.0
    by_test true e h =
        let is : lookup (is_at (nat_cmp x.0)) (x ∷ xs) ≡ Some x.1 = rw e refl in
        let some : x.1 ≢ 0 = λ n. z x.0 (is ∙ ap Some n) in
        rw is (omega arith)
    by_test false e h = absurd (cc h)

-- what a name has in the entries of both of two vectors
pub record IsMergedAt (mine yours both : List (ℕ × ℕ)) (name : ℕ) : Type 0 where
  pub entry : known_up_to both name ≡ max (known_up_to mine name) (known_up_to yours name)
  pub no_zero : lookup (is_at (nat_cmp name)) both ≢ Some 0

positive_by : (x y : Option ℕ) → IsTrue (is_some x || is_some y) → x ≢ Some 0 → y ≢ Some 0 → 1 ≤ max (unwrap_or x 0) (unwrap_or y 0)
positive_by None None h p q = absurd (cc h)
positive_by None (Some n) h p q = let k : n ≢ 0 = λ e. q (ap Some e) in omega arith
positive_by (Some m) y h p q = let k : m ≢ 0 = λ e. p (ap Some e) in omega arith

pub merged_here : (mine yours new : List (ℕ × ℕ)) (name number : ℕ) (x y : Option ℕ) → lookup (is_at (nat_cmp name)) mine ≡ x
    → lookup (is_at (nat_cmp name)) yours ≡ y → IsTrue (is_some x || is_some y)
    → number ≡ max (unwrap_or x 0) (unwrap_or y 0) → lookup (is_at (nat_cmp name)) new ≡ Some number → HasNoZero mine → HasNoZero yours
    → IsMergedAt mine yours new name
merged_here mine yours new name number x y e f somewhere is found z w =
    let m : known_up_to mine name ≡ unwrap_or x 0 = ap (λ o. unwrap_or o 0) e in
    let n : known_up_to yours name ≡ unwrap_or y 0 = ap (λ o. unwrap_or o 0) f in
    let k : known_up_to new name ≡ number = ap (λ o. unwrap_or o 0) found in
    let up = positive_by x y somewhere (λ h. z name (e ∙ h)) (λ h. w name (f ∙ h)) in
    record {
      entry = rw (k, m, n) is;
      no_zero = λ h. let zero : number ≡ 0 = cc in absurd (omega arith);
    }

pub merged_kept : (mine yours old new : List (ℕ × ℕ)) (name : ℕ) → lookup (is_at (nat_cmp name)) new ≡ lookup (is_at (nat_cmp name)) old
    → IsMergedAt mine yours old name → IsMergedAt mine yours new name
merged_kept mine yours old new name e h = record {
  entry = ap (λ o. unwrap_or o 0) e ∙ h.entry;
  no_zero = λ z. h.no_zero (sym e ∙ z);
}

pub merged_nowhere : (mine yours both : List (ℕ × ℕ)) (name : ℕ) → lookup (is_at (nat_cmp name)) mine ≡ None → lookup (is_at (nat_cmp name)) yours ≡ None
    → lookup (is_at (nat_cmp name)) both ≡ None
    → IsMergedAt mine yours both name
merged_nowhere mine yours both name e f h =
    let m : known_up_to mine name ≡ 0 = ap (λ o. unwrap_or o 0) e in
    let n : known_up_to yours name ≡ 0 = ap (λ o. unwrap_or o 0) f in
    let k : known_up_to both name ≡ 0 = ap (λ o. unwrap_or o 0) h in
    record {
      entry = rw (k, m, n) refl;
      no_zero = λ z. absurd (cc (h, z));
    }

pub known_from_found : (es : List (ℕ × ℕ)) (name number : ℕ) → lookup (is_at (nat_cmp name)) es ≡ Some number → known_up_to es name ≡ number
known_from_found es name number h = ap (λ o. unwrap_or o 0) h
