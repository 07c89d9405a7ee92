-- A dot that is taken out, by the entry of its name and the test of the cloud.
use Rattle.std.proofs.Common.{◌≡◌, ℕ, ◌+◌, ◌-◌, ◌≤◌, ◌<◌, Bool, true, false, ◌||◌, ◌&&◌, not, cond, List, refl, sym, ap, subst, ◌∙◌, arith, eqb, leb, eqb-true}
use Rattle.std.proofs.Common.{◌⊎◌, inl, inr}
use Rattle.std.specs.Prelude.{IsTrue}
use Rattle.std.specs.Ordering.{is_gt, is_lt, nat_cmp, ordering_then}
use Rattle.std.specs.List.{filter}
use Rattle.std.proofs.lemmas.Bool.{cases_lt}
use Rattle.std.proofs.lemmas.Bool.Decides.{nat_tests}
use Rattle.ordered_list.specs.Items.{is_between}
use Rattle.dots.specs.Dot.{DotValue, same_dot}
use Rattle.causal_context.specs.Dots.{dot_cmp}
use Rattle.causal_context.specs.Context.{ContextValue, has, in_cloud}
use Rattle.causal_context.specs.Canonical.{IsCanonical}
use Rattle.causal_context.proofs.Clouds.{in_cloud-filter, and_turned}
use Rattle.causal_context.proofs.Dots.{same_from_test}
use Rattle.causal_context.proofs.Forms.{one_form}
use Rattle.causal_context.proofs.Known.{known, Apart, known_below, old_from_new}

and_true : (b : Bool) → (b && true) ≡ b
and_true true = refl
and_true false = refl

-- the numbers of the name whose entry n is lowered by one
lowered_at : (n m : ℕ) (t : Bool) → 1 ≤ n → (t ≡ true → n + 1 < m) → (leb 1 m && (leb m (n - 1) || t)) ≡ ((leb 1 m && (leb m n || t)) && not (true && eqb n m))
lowered_at n m true l apart = let past = apart refl in grind (arith, nat_tests)
lowered_at n m false l apart = grind (arith, nat_tests)

pub known-lowered : (entry entry' : ℕ → ℕ) (test : DotValue → Bool) (dot : DotValue) → 1 ≤ dot.number → dot.number ≡ entry dot.name → Apart entry test
    → ((q : ℕ) → entry' q ≡ cond (eqb dot.name q) (dot.number - 1) (entry q)) → (d : DotValue)
    → known entry' test d ≡ (known entry test d && not (same_dot dot d))
known-lowered entry entry' test dot one is apart lowered d = by_name (eqb dot.name d.name) (eqb-true dot.name d.name) refl
  where
    by_name : (b : Bool) → (b ≡ true → dot.name ≡ d.name) → eqb dot.name d.name ≡ b → known entry' test d ≡ (known entry test d && not (same_dot dot d))
    by_name true names at =
        let entry_is : entry' d.name ≡ dot.number - 1 = lowered d.name ∙ ap (λ b. cond b (dot.number - 1) (entry d.name)) at in
        let before : dot.number ≡ entry d.name = is ∙ ap entry (names refl) in
        let past : test d ≡ true → dot.number + 1 < d.number = λ h. let l = apart d h in omega arith in
        ap (λ e. leb 1 d.number && (leb d.number e || test d)) entry_is ∙ lowered_at dot.number d.number (test d) one past
        ∙ ap (λ e. (leb 1 d.number && (leb d.number e || test d)) && not (true && eqb dot.number d.number)) before
        ∙ ap (λ b. known entry test d && not (b && eqb dot.number d.number)) (sym at)
    by_name false names at =
        let entry_is : entry' d.name ≡ entry d.name = lowered d.name ∙ ap (λ b. cond b (dot.number - 1) (entry d.name)) at in
        ap (λ e. leb 1 d.number && (leb d.number e || test d)) entry_is ∙ sym (and_true (known entry test d))
        ∙ ap (λ b. known entry test d && not (b && eqb dot.number d.number)) (sym at)

-- where the dot above is not known, a dot that is not above the entry of its name is that entry
pub entry_from_last : (entry : ℕ → ℕ) (test : DotValue → Bool) (dot : DotValue) → dot.number ≤ entry dot.name
    → known entry test (record { name = dot.name; number = dot.number + 1 }) ≡ false → dot.number ≡ entry dot.name
entry_from_last entry test dot l last = by_cases (cases_lt dot.number (entry dot.name))
  where
    by_cases : (dot.number < entry dot.name) ⊎ (entry dot.name ≤ dot.number) → dot.number ≡ entry dot.name
    by_cases (inl h) = absurd (cc (known_below entry test (record { name = dot.name; number = dot.number + 1 }) (omega arith) (omega arith), last))
    by_cases (inr h) = omega arith

-- no entry is raised by it
pub apart-lowered : (entry entry' : ℕ → ℕ) (test : DotValue → Bool) (dot : DotValue) → dot.number ≡ entry dot.name → Apart entry test
    → ((q : ℕ) → entry' q ≡ cond (eqb dot.name q) (dot.number - 1) (entry q)) → Apart entry' test
apart-lowered entry entry' test dot is apart lowered d h = by_name (eqb dot.name d.name) (eqb-true dot.name d.name) refl
  where
    by_name : (b : Bool) → (b ≡ true → dot.name ≡ d.name) → eqb dot.name d.name ≡ b → entry' d.name + 1 < d.number
    by_name true names at =
        let entry_is : entry' d.name ≡ dot.number - 1 = lowered d.name ∙ ap (λ b. cond b (dot.number - 1) (entry d.name)) at in
        let before : dot.number ≡ entry d.name = is ∙ ap entry (names refl) in
        let past = apart d h in
        omega arith
    by_name false names at =
        let entry_is : entry' d.name ≡ entry d.name = lowered d.name ∙ ap (λ b. cond b (dot.number - 1) (entry d.name)) at in
        let past = apart d h in
        omega arith

-- a dot that is taken out of the cloud
between_same : (a b m n : ℕ) → (not (is_lt (ordering_then (nat_cmp b a) (nat_cmp m n))) && not (is_gt (ordering_then (nat_cmp b a) (nat_cmp m n))))
    ≡ (eqb a b && eqb n m)
between_same a b m n = grind (arith, nat_tests)

pub dot_taken : (dot : DotValue) (old new : List DotValue) → new ≡ filter (λ x. not (is_between dot_cmp dot dot x)) old → (d : DotValue)
    → in_cloud new d ≡ (in_cloud old d && not (same_dot dot d))
dot_taken dot old new is d =
    ap (λ ds. in_cloud ds d) is ∙ in_cloud-filter (λ x. not (is_between dot_cmp dot dot x)) old d ∙ and_turned (is_between dot_cmp dot dot d) (in_cloud old d)
    ∙ ap (λ b. in_cloud old d && not b) (between_same dot.name d.name d.number dot.number)

taken_at : (m e : ℕ) (old new : Bool) → e < m → new ≡ (old && not true) → (leb 1 m && (leb m e || new)) ≡ ((leb 1 m && (leb m e || old)) && not true)
taken_at m e true new l is = grind (arith, nat_tests)
taken_at m e false new l is = grind (arith, nat_tests)

pub known-taken : (entry : ℕ → ℕ) (old new : DotValue → Bool) (dot : DotValue) → entry dot.name < dot.number
    → ((d : DotValue) → new d ≡ (old d && not (same_dot dot d)))
    → (d : DotValue) → known entry new d ≡ (known entry old d && not (same_dot dot d))
known-taken entry old new dot l taken d = by_dot (same_dot dot d) refl
  where
    by_dot : (b : Bool) → same_dot dot d ≡ b → known entry new d ≡ (known entry old d && not (same_dot dot d))
    by_dot true e =
        let above : entry d.name < d.number = subst (λ x. entry x.name < x.number) (same_from_test dot d e) l in
        taken_at d.number (entry d.name) (old d) (new d) above (taken d ∙ ap (λ b. old d && not b) e) ∙ ap (λ b. known entry old d && not b) (sym e)
    by_dot false e =
        let kept : new d ≡ old d = taken d ∙ ap (λ b. old d && not b) e ∙ and_true (old d) in
        ap (λ t. leb 1 d.number && (leb d.number (entry d.name) || t)) kept ∙ sym (and_true (known entry old d)) ∙ ap (λ b. known entry old d && not b) (sym e)

pub kept_from_taken : (dot : DotValue) (old new : DotValue → Bool) → ((d : DotValue) → new d ≡ (old d && not (same_dot dot d))) → (d : DotValue)
    → IsTrue (new d) → IsTrue (old d)
kept_from_taken dot old new taken d h = old_from_new (old d) (not (same_dot dot d)) (new d) (taken d) h

-- a dot that was added and is taken out again: what there is then is what there was
back : (same was : Bool) → (same ≡ true → was ≡ false) → ((same || was) && not same) ≡ was
back true was absent = sym (absent refl)
back false true absent = refl
back false false absent = refl

pub added_taken : (context added taken : ContextValue) (dot : DotValue) → IsCanonical context → IsCanonical taken → has context dot ≡ false
    → ((d : DotValue) → has added d ≡ (same_dot dot d || has context d)) → ((d : DotValue) → has taken d ≡ (has added d && not (same_dot dot d)))
    → taken ≡ context
added_taken context added taken dot before after absent adds takes =
    one_form taken context after before
    (λ d. takes d ∙ ap (λ b. b && not (same_dot dot d)) (adds d) ∙ back (same_dot dot d) (has context d)
    (λ same. ap (has context) (sym (same_from_test dot d same)) ∙ absent))
