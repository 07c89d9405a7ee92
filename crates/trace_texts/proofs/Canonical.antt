-- Dots whose numbers a dot can have are those of a context in canonical form.
use Rattle.std.proofs.Common.{◌≡◌, ◌≢◌, ◌⊎◌, inl, inr, ℕ, zero, suc, ◌+◌, ◌≤◌, ◌<◌, ◌==◌, ◌&&◌, ◌||◌, nat_lt, nat_le, Bool, true, false, List, [], ◌∷◌}
use Rattle.std.proofs.Common.{cond, refl, sym, ap, ◌∙◌, arith, subst, eqb-true, eq-eqb}
use Rattle.std.specs.Prelude.{Contains, IsTrue}
use Rattle.std.specs.BTreeMap.{insert_entry}
use Rattle.std.specs.BTreeSet.{insert_key}
use Rattle.std.specs.Cmp.{nat_cmp_total}
use Rattle.std.specs.List.{filter}
use Rattle.std.specs.List.Sorted.{IsStrictlySortedBy}
use Rattle.std.specs.Map.{keys_of}
use Rattle.std.specs.Ordering.{nat_cmp}
use Rattle.std.proofs.lemmas.Bool.Decides.{nat_tests}
use Rattle.std.proofs.lemmas.Bool.{false≢true, cases_order, cases_lt, and_parts}
use Rattle.std.proofs.lemmas.List.Kept.{IsStrictlySortedBy-filter}
use Rattle.dots.specs.Dot.{DotValue, same_dot}
use Rattle.causal_context.specs.Dots.{dot_cmp}
use Rattle.causal_context.specs.Context.{ContextValue, known_up_to, in_cloud}
use Rattle.causal_context.specs.Context as context
use Rattle.causal_context.specs.Canonical.{IsCanonical, HasNoZero}
use Rattle.causal_context.proofs.Clouds.{in_cloud-filter}
use Rattle.causal_context.proofs.Dots.{dot_cmp_total}
use Rattle.causal_context.proofs.Vectors.{known_up_to-insert, HasNoZero-insert}
use Rattle.delta_ops.proofs.Erasing.{has-insert}
use Rattle.op_model.specs.Made.{greatest_number}
use Rattle.op_model.specs.Operation.{has}
use Rattle.op_model.proofs.Dots.{same_dot-symm, from_has}
use Rattle.op_model.proofs.Fresh.{next-fresh}
use Rattle.op_model.proofs.Members.{nothing_in, head_or_tail}
use Rattle.ordered_list.proofs.Items.{ascends_insert_key}
use Rattle.ordered_list.proofs.Places.{ascends_insert, lookup-insert_entry}
use Rattle.trace_texts.specs.Numbered.{IsNumbered}

-- ---- the number up to which all dots of a name pass a test

abbrev PassUpTo : (DotValue → Bool) → ℕ → ℕ → Type 0
PassUpTo test name n = (m : ℕ) → 1 ≤ m → m ≤ n → IsTrue (test (record { name = name; number = m }))

record IsTop (test : DotValue → Bool) (name n : ℕ) : Type 0 where
  known : PassUpTo test name n
  stops : test (record { name = name; number = n + 1 }) ≡ false

-- it is before the first number that does not pass
one_further : (test : DotValue → Bool) (name n : ℕ) → PassUpTo test name n → (b : Bool) → test (record { name = name; number = n + 1 }) ≡ b
    → (PassUpTo test name (n + 1) → (k : ℕ) × IsTop test name k) → (k : ℕ) × IsTop test name k
one_further test name n pass false e further = (n, record { known = pass; stops = e })
one_further test name n pass true e further = further more
  where
    more : PassUpTo test name (n + 1)
    more m first within = elim (cases_order m (n + 1)) [
      | inl same ↦ ap (λ k. test (record { name = name; number = k })) same ∙ e
      | inr apart ↦ elim apart [ inl less ↦ pass m first (omega arith) | inr above ↦ absurd (omega arith) ]
    ]

first_gap : (test : DotValue → Bool) (name left n : ℕ) → PassUpTo test name n → test (record { name = name; number = n + left + 1 }) ≡ false
    → (k : ℕ) × IsTop test name k
first_gap test name zero n pass stops =
    let here : n + 1 ≡ n + 0 + 1 = omega arith in (n, record { known = pass; stops = ap (λ k. test (record { name = name; number = k })) here ∙ stops })
first_gap test name (suc left) n pass stops =
    let there : n + 1 + left + 1 ≡ n + suc left + 1 = omega arith in
    one_further test name n pass (test (record { name = name; number = n + 1 })) refl
    (λ more. first_gap test name left (n + 1) more (ap (λ k. test (record { name = name; number = k })) there ∙ stops))

top : (dots : List DotValue) (name : ℕ) → (k : ℕ) × IsTop (has dots) name k
top dots name =
    let above : 0 + greatest_number name dots + 1 ≡ greatest_number name dots + 1 = omega arith in
    first_gap (has dots) name (greatest_number name dots) 0 (λ m first within. absurd (omega (arith, first, within)))
    (ap (λ k. has dots (record { name = name; number = k })) above ∙ next-fresh name dots)

-- ---- the dots in order, each once

in_order : List DotValue → List DotValue
in_order [] = []
in_order (dot ∷ dots) = insert_key dot_cmp (in_order dots) dot

order_ascends : (dots : List DotValue) → IsStrictlySortedBy dot_cmp (in_order dots)
unfolding in_order IsStrictlySortedBy
order_ascends [] = tt
order_ascends (dot ∷ dots) = ascends_insert_key dot_cmp dot_cmp_total (in_order dots) dot (order_ascends dots)

in_cloud-in_order : (dots : List DotValue) (d : DotValue) → in_cloud (in_order dots) d ≡ has dots d
unfolding in_order
in_cloud-in_order dots d = in_cloud-has (in_order dots) ∙ ordered dots
  where
    in_cloud-has : (ds : List DotValue) → in_cloud ds d ≡ has ds d
    in_cloud-has [] = refl
    in_cloud-has (dot ∷ ds) = λ i. same_dot-symm d dot i || in_cloud-has ds i

    ordered : (ds : List DotValue) → has (in_order ds) d ≡ has ds d
    ordered [] = refl
    ordered (dot ∷ ds) = has-insert dot (in_order ds) d ∙ ap (λ b. same_dot dot d || b) (ordered ds)

-- ---- the version vector: for each name that number, where it is not 0

with_entry : ℕ → ℕ → List (ℕ × ℕ) → List (ℕ × ℕ)
with_entry name zero entries = entries
with_entry name (suc n) entries = insert_entry nat_cmp entries name (suc n)

module _ (dots : List DotValue) where
  run : ℕ → ℕ
  run name = (top dots name).0

  run_is_top : (name : ℕ) → IsTop (has dots) name (run name)
  unfolding run
  run_is_top name = (top dots name).1

  entries : List DotValue → List (ℕ × ℕ)
  entries [] = []
  entries (dot ∷ ds) = with_entry dot.name (run dot.name) (entries ds)

  entries_ascend : (ds : List DotValue) → IsStrictlySortedBy nat_cmp (keys_of (entries ds))
  unfolding entries with_entry IsStrictlySortedBy
  entries_ascend [] = tt
  entries_ascend (dot ∷ ds) = one_more (run dot.name) (entries_ascend ds)
    where
      one_more : (n : ℕ) → IsStrictlySortedBy nat_cmp (keys_of (entries ds)) → IsStrictlySortedBy nat_cmp (keys_of (with_entry dot.name n (entries ds)))
      one_more zero rest = rest
      one_more (suc n) rest = ascends_insert nat_cmp nat_cmp_total (entries ds) dot.name (suc n) rest

  no_zero : (ds : List DotValue) → HasNoZero (entries ds)
  unfolding entries with_entry
  no_zero [] = λ name e. absurd cc
  no_zero (dot ∷ ds) = one_more (run dot.name) (no_zero ds)
    where
      one_more : (n : ℕ) → HasNoZero (entries ds) → HasNoZero (with_entry dot.name n (entries ds))
      one_more zero rest = rest
      one_more (suc n) rest =
          HasNoZero-insert (entries ds) (insert_entry nat_cmp (entries ds) dot.name (suc n)) dot.name (suc n) (omega arith)
          (λ q. lookup-insert_entry nat_cmp nat_cmp_total (entries ds) dot.name q (suc n)) rest

  -- the entry of a name is that number, or the name has no dot here
  abbrev EntryOrNone : List DotValue → List (ℕ × ℕ) → ℕ → Type 0
  EntryOrNone ds es name = (known_up_to es name ≡ run name) ⊎ ((known_up_to es name ≡ 0) × ((d : DotValue) → Contains ds d → d.name ≢ name))

  entry_or_none : (ds : List DotValue) (name : ℕ) → EntryOrNone ds (entries ds) name
  unfolding entries with_entry
  entry_or_none [] name = inr (refl, λ d h. nothing_in d h)
  entry_or_none (dot ∷ ds) name = one_more (run dot.name) refl (dot.name == name) refl (entry_or_none ds name)
    where
      others : (dot.name == name) ≡ false → ((d : DotValue) → Contains ds d → d.name ≢ name) → (d : DotValue) → Contains (dot ∷ ds) d → d.name ≢ name
      others apart none d h = by (head_or_tail dot ds d h)
        where
          by : (dot ≡ d) ⊎ Contains ds d → d.name ≢ name
          by (inl same) e =
              false≢true (sym apart ∙ eq-eqb dot.name name (ap (λ (x : DotValue). x.name) same ∙ e))
          by (inr t) e = none d t e

      one_more : (n : ℕ) → run dot.name ≡ n → (b : Bool) → (dot.name == name) ≡ b → EntryOrNone ds (entries ds) name
          → EntryOrNone (dot ∷ ds) (with_entry dot.name n (entries ds)) name
      one_more zero is b e (inl there) = inl there
      one_more zero is true e (inr (none, apart)) = inl (none ∙ sym is ∙ ap run (eqb-true dot.name name e))
      one_more zero is false e (inr (none, apart)) = inr (none, others e apart)
      one_more (suc n) is b e rest =
          at b e rest (known_up_to-insert (entries ds) (insert_entry nat_cmp (entries ds) dot.name (suc n)) dot.name (suc n) name
          (lookup-insert_entry nat_cmp nat_cmp_total (entries ds) dot.name name (suc n)))
        where
          at : (b : Bool) → (dot.name == name) ≡ b → EntryOrNone ds (entries ds) name
              → known_up_to (insert_entry nat_cmp (entries ds) dot.name (suc n)) name ≡ cond (dot.name == name) (suc n) (known_up_to (entries ds) name)
              → EntryOrNone (dot ∷ ds) (insert_entry nat_cmp (entries ds) dot.name (suc n)) name
          at true e rest now =
              inl (now ∙ ap (λ c. cond c (suc n) (known_up_to (entries ds) name)) e ∙ sym is ∙ ap run (eqb-true dot.name name e))
          at false e (inl there) now = inl (now ∙ ap (λ c. cond c (suc n) (known_up_to (entries ds) name)) e ∙ there)
          at false e (inr (none, apart)) now =
              inr (now ∙ ap (λ c. cond c (suc n) (known_up_to (entries ds) name)) e ∙ none, others e apart)

  entry_is : (name : ℕ) → known_up_to (entries dots) name ≡ run name
  entry_is name = by (entry_or_none dots name)
    where
      nothing : (n : ℕ) → IsTop (has dots) name n → ((d : DotValue) → Contains dots d → d.name ≢ name) → n ≡ 0
      nothing zero t none = refl
      nothing (suc n) t none =
          let first : DotValue = record { name = name; number = 1 } in
          absurd (none first (from_has dots first (t.known 1 (omega arith) (omega arith))) refl)

      by : EntryOrNone dots (entries dots) name → known_up_to (entries dots) name ≡ run name
      by (inl e) = e
      by (inr (zero_there, none)) = zero_there ∙ sym (nothing (run name) (run_is_top name) none)

  -- ---- the cloud: the dots above it

  above : DotValue → Bool
  above d = nat_lt (run d.name) d.number

  pub compressed : ContextValue
  compressed = record { vector = entries dots; cloud = filter above (in_order dots) }

  in_it : (d : DotValue) → in_cloud (filter above (in_order dots)) d ≡ (nat_lt (run d.name) d.number && has dots d)
  unfolding above
  in_it d = in_cloud-filter above (in_order dots) d ∙ ap (λ b. nat_lt (run d.name) d.number && b) (in_cloud-in_order dots d)

  -- the dot just above is not there
  far_above : (d : DotValue) → nat_lt (run d.name) d.number ≡ true → has dots d ≡ true → run d.name + 1 < d.number
  far_above d e there = elim (cases_lt (run d.name + 1) d.number) [
    | inl lt ↦ lt
    | inr ge ↦
        let less : run d.name < d.number = grind (arith, nat_tests) in
        let same : d.number ≡ run d.name + 1 = omega (arith, ge, less) in
        absurd (false≢true (sym (run_is_top d.name).stops ∙ ap (λ n. has dots (record { name = d.name; number = n })) (sym same) ∙ there))
  ]

  module _ (numbered : IsNumbered (has dots)) where
    pub compressed_canonical : IsCanonical compressed
    unfolding compressed
    compressed_canonical = record {
      names_ascend = entries_ascend dots;
      dots_ascend = IsStrictlySortedBy-filter dot_cmp above (in_order dots) (order_ascends dots);
      no_zero = no_zero dots;
      apart = λ d h.
          let parts = and_parts (nat_lt (run d.name) d.number) (has dots d) (sym (in_it d) ∙ h) in
          subst (λ n. n + 1 < d.number) (sym (entry_is d.name)) (far_above d parts.0 parts.1);
      bounded = λ d h. (numbered d (and_parts (nat_lt (run d.name) d.number) (has dots d) (sym (in_it d) ∙ h)).1).1;
    }

    pub compressed_has : (d : DotValue) → context.has compressed d ≡ has dots d
    unfolding compressed context.has
    compressed_has d =
        ap (λ n. nat_le 1 d.number && (nat_le d.number n || in_cloud (filter above (in_order dots)) d)) (entry_is d.name)
        ∙ ap (λ b. nat_le 1 d.number && (nat_le d.number (run d.name) || b)) (in_it d)
        ∙ by (run d.name) (has dots d) (λ there. (numbered d there).0) ((run_is_top d.name).known d.number)
      where
        by : (n : ℕ) (b : Bool) → (b ≡ true → 1 ≤ d.number) → (1 ≤ d.number → d.number ≤ n → b ≡ true)
            → (nat_le 1 d.number && (nat_le d.number n || (nat_lt n d.number && b))) ≡ b
        by n true first within = let positive = first refl in grind (arith, nat_tests)
        by n false first within = go (nat_le 1 d.number) (nat_le d.number n) refl refl
          where
            go : (p q : Bool) → nat_le 1 d.number ≡ p → nat_le d.number n ≡ q → (p && (q || (nat_lt n d.number && false))) ≡ false
            go false q e f = refl
            go true true e f = absurd (false≢true (within (at_most 1 d.number e) (at_most d.number n f)))
              where
                at_most : (k m : ℕ) → nat_le k m ≡ true → k ≤ m
                at_most k m e = grind (arith, nat_tests)
            go true false e f = nothing (nat_lt n d.number)
              where
                nothing : (b : Bool) → (b && false) ≡ false
                nothing true = refl
                nothing false = refl
