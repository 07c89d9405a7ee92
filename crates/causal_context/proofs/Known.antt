-- Whether a dot is known, by the entry of its name and the test of the cloud.
use Rattle.std.proofs.Common.{◌≡◌, ◌≢◌, ℕ, ◌+◌, ◌≤◌, ◌<◌, Bool, true, false, ◌||◌, ◌&&◌, not, cond, refl, sym, ap, subst, ◌∙◌, arith, eqb, leb, ltb, max}
use Rattle.std.proofs.Common.{⊎_elim}
use Rattle.std.specs.Prelude.{IsTrue}
use Rattle.std.specs.Cmp.{both_ways}
use Rattle.std.proofs.lemmas.Bool.{eqb-true, leb-true, le-leb, cases_lt}
use Rattle.std.proofs.lemmas.Bool.Decides.{nat_tests}
use Rattle.dots.specs.Dot.{DotValue, same_dot}
use Rattle.causal_context.specs.Context.{IsGreatest}
use Rattle.causal_context.specs.Run.{is_in_run, IsRunEnd}
use Rattle.causal_context.proofs.Dots.{same_from_test}

-- `is_known`, with the vector as a function and the cloud as a test
abbrev pub known : (ℕ → ℕ) → (DotValue → Bool) → DotValue → Bool
known entry test d = leb 1 d.number && (leb d.number (entry d.name) || test d)

by_test : (b x y : Bool) → (b ≡ true → x ≡ true) → (b ≡ false → x ≡ y) → x ≡ (b || y)
by_test true x y same other = same refl
by_test false x y same other = other refl

-- a dot that is known already changes nothing
pub known_again : (has : DotValue → Bool) (dot : DotValue) → has dot ≡ true → (d : DotValue) → has d ≡ (same_dot dot d || has d)
known_again has dot h d = by_test (same_dot dot d) (has d) (has d) (λ e. ap has (sym (same_from_test dot d e)) ∙ h) (λ _. refl)

number_from_one : (n : ℕ) (a b : Bool) → 1 ≤ n → (leb 1 n && (a || true)) ≡ true
number_from_one n a b l = grind (arith, nat_tests)

-- a dot added to the cloud
pub known-cloud : (entry : ℕ → ℕ) (old new : DotValue → Bool) (dot : DotValue) → 1 ≤ dot.number → ((d : DotValue) → new d ≡ (same_dot dot d || old d))
    → (d : DotValue) → known entry new d ≡ (same_dot dot d || known entry old d)
known-cloud entry old new dot l h d =
    by_test (same_dot dot d) (known entry new d) (known entry old d)
    (λ e. let at : new d ≡ true = h d ∙ ap (λ b. b || old d) e in
    let up : 1 ≤ d.number = subst (λ x. 1 ≤ x.number) (same_from_test dot d e) l in
    rw at (number_from_one d.number (leb d.number (entry d.name)) true up))
    (λ e. let at : new d ≡ old d = h d ∙ ap (λ b. b || old d) e in rw at refl)

-- the numbers of one name: n is added, and the entry is raised over the run above it
raised_at : (n e end m : ℕ) (old new : Bool) → n ≡ e + 1 → n ≤ end → (n < m → m ≤ end → old ≡ true) → new ≡ (old && not (true && (ltb n m && leb m end)))
    → (leb 1 m && (leb m end || new)) ≡ ((true && eqb n m) || (leb 1 m && (leb m e || old)))
raised_at n e end m old new is l run h = rw h (grind (arith, nat_tests))

and_true : (b : Bool) → (b && true) ≡ b
and_true true = refl
and_true false = refl

-- a dot added to the vector
pub known-raised : (entry entry' : ℕ → ℕ) (old new : DotValue → Bool) (dot : DotValue) (end : ℕ) → dot.number ≡ entry dot.name + 1 → IsRunEnd old dot end
    → ((q : ℕ) → entry' q ≡ cond (eqb dot.name q) end (entry q)) → ((d : DotValue) → new d ≡ (old d && not (is_in_run dot end d)))
    → (d : DotValue) → known entry' new d ≡ (same_dot dot d || known entry old d)
known-raised entry entry' old new dot end is run raised kept d = by_name (eqb dot.name d.name) (eqb-true dot.name d.name) refl
  where
    by_name : (b : Bool) → (b ≡ true → dot.name ≡ d.name) → eqb dot.name d.name ≡ b → known entry' new d ≡ (same_dot dot d || known entry old d)
    by_name true names at =
        let entry_is : entry' d.name ≡ end = raised d.name ∙ ap (λ b. cond b end (entry d.name)) at in
        let new_is : new d ≡ (old d && not (true && (ltb dot.number d.number && leb d.number end))) = kept d
        ∙ ap (λ b. old d && not (b && (ltb dot.number d.number && leb d.number end))) at in
        let with_name : ℕ → DotValue = λ n. record { name = n; number = d.number } in
        let before : dot.number ≡ entry d.name + 1 = is ∙ ap (λ n. entry n + 1) (names refl) in
        let within : dot.number < d.number → d.number ≤ end → old d ≡ true = λ h k. ap (λ n. old (with_name n)) (sym (names refl)) ∙ run.run d.number h k in
        ap (λ e. leb 1 d.number && (leb d.number e || new d)) entry_is
        ∙ raised_at dot.number (entry d.name) end d.number (old d) (new d) before run.from within new_is
        ∙ ap (λ b. (b && eqb dot.number d.number) || known entry old d) (sym at)
    by_name false names at =
        let entry_is : entry' d.name ≡ entry d.name = raised d.name ∙ ap (λ b. cond b end (entry d.name)) at in
        let new_is : new d ≡ old d = kept d ∙ ap (λ b. old d && not (b && (ltb dot.number d.number && leb d.number end))) at ∙ and_true (old d) in
        ap (λ e. leb 1 d.number && (leb d.number e || new d)) entry_is ∙ ap (λ b. leb 1 d.number && (leb d.number (entry d.name) || b)) new_is
        ∙ ap (λ b. (b && eqb dot.number d.number) || known entry old d) (sym at)

-- a dot at or below the entry is known, and so is one of the cloud
pub known_below : (entry : ℕ → ℕ) (test : DotValue → Bool) (d : DotValue) → 1 ≤ d.number → d.number ≤ entry d.name → IsTrue (known entry test d)
known_below entry test d l h = grind (arith, nat_tests)

pub known_in_cloud : (entry : ℕ → ℕ) (test : DotValue → Bool) (d : DotValue) → 1 ≤ d.number → IsTrue (test d) → IsTrue (known entry test d)
known_in_cloud entry test d l h = grind (arith, nat_tests)

pub known_above : (entry : ℕ → ℕ) (test : DotValue → Bool) (d : DotValue) → 1 ≤ d.number → entry d.name < d.number → test d ≡ known entry test d
known_above entry test d l h = grind (arith, nat_tests)

-- a known dot above the entry is in the cloud
pub cloud_from_known : (entry : ℕ → ℕ) (test : DotValue → Bool) (d : DotValue) → entry d.name < d.number → IsTrue (known entry test d) → IsTrue (test d)
cloud_from_known entry test d l h = grind (arith, nat_tests)

-- a known dot has a number from 1, and is at or below the entry or in the cloud
pub known_cases : (P : Type 0) (entry : ℕ → ℕ) (test : DotValue → Bool) (d : DotValue) → IsTrue (known entry test d)
    → (1 ≤ d.number → d.number ≤ entry d.name → P) → (1 ≤ d.number → IsTrue (test d) → P) → P
known_cases P entry test d h below above = by_parts (leb 1 d.number) (leb d.number (entry d.name)) (test d) h (leb-true 1 d.number)
    (leb-true d.number (entry d.name)) below above
  where
    by_parts : (a b t : Bool) → IsTrue (a && (b || t)) → (a ≡ true → 1 ≤ d.number) → (b ≡ true → d.number ≤ entry d.name)
        → (1 ≤ d.number → d.number ≤ entry d.name → P) → (1 ≤ d.number → IsTrue t → P) → P
    by_parts true true t h one le below above = below (one refl) (le refl)
    by_parts true false t h one le below above = above (one refl) h
    by_parts false b t h one le below above = absurd (cc h)

-- no dot of the cloud is at or below the entry of its name, or just above it
abbrev pub Apart : (ℕ → ℕ) → (DotValue → Bool) → Type 0
Apart entry test = (d : DotValue) → IsTrue (test d) → entry d.name + 1 < d.number

-- what includes another set of dots is at or above it in each entry
pub covers_from_includes : (entry entry' : ℕ → ℕ) (test test' : DotValue → Bool) → Apart entry test
    → ((d : DotValue) → IsTrue (known entry' test' d) → IsTrue (known entry test d))
    → (name : ℕ) → entry' name ≤ entry name
covers_from_includes entry entry' test test' apart h name = ⊎_elim
    (λ (l : entry name < entry' name).
    let d : DotValue = record { name = name; number = entry name + 1 } in
    let there = h d (known_below entry' test' d (omega arith) (omega arith)) in
    let above = apart d (cloud_from_known entry test d (omega arith) there) in
    absurd (omega arith))
    (λ l. l) (cases_lt (entry name) (entry' name))

pub includes_from_parts : (entry entry' : ℕ → ℕ) (test test' : DotValue → Bool) → ((name : ℕ) → entry' name ≤ entry name)
    → ((d : DotValue) → IsTrue (test' d) → IsTrue (known entry test d))
    → (d : DotValue) → IsTrue (known entry' test' d) → IsTrue (known entry test d)
includes_from_parts entry entry' test test' le h d k =
    known_cases (IsTrue (known entry test d)) entry' test' d k
    (λ one below. let up = le d.name in known_below entry test d one (omega arith)) (λ _ there. h d there)

-- sets of dots with the same dots have the same entries and the same cloud
pub same_entries : (entry entry' : ℕ → ℕ) (test test' : DotValue → Bool) → Apart entry test → Apart entry' test'
    → ((d : DotValue) → known entry test d ≡ known entry' test' d)
    → (name : ℕ) → entry name ≡ entry' name
same_entries entry entry' test test' apart apart' h name =
    let up = covers_from_includes entry entry' test test' apart (λ d k. h d ∙ k) name in
    let down = covers_from_includes entry' entry test' test apart' (λ d k. sym (h d) ∙ k) name in
    omega arith

cloud_one : (entry entry' : ℕ → ℕ) (test test' : DotValue → Bool) → Apart entry test → ((name : ℕ) → entry name ≡ entry' name)
    → ((d : DotValue) → known entry test d ≡ known entry' test' d)
    → (d : DotValue) → IsTrue (test d) → IsTrue (test' d)
cloud_one entry entry' test test' apart e h d k =
    let above = apart d k in
    let at = e d.name in
    cloud_from_known entry' test' d (omega arith) (sym (h d) ∙ known_in_cloud entry test d (omega arith) k)

pub same_clouds : (entry entry' : ℕ → ℕ) (test test' : DotValue → Bool) → Apart entry test → Apart entry' test'
    → ((d : DotValue) → known entry test d ≡ known entry' test' d)
    → (d : DotValue) → test d ≡ test' d
same_clouds entry entry' test test' apart apart' h d = both_ways (test d) (test' d)
    (λ k. cloud_one entry entry' test test' apart (same_entries entry entry' test test' apart apart' h) h d k)
    (λ k. cloud_one entry' entry test' test apart' (λ n. sym (same_entries entry entry' test test' apart apart' h n)) (λ x. sym (h x)) d k)

-- the form stays canonical when a dot is added to the cloud
pub apart-cloud : (entry : ℕ → ℕ) (old new : DotValue → Bool) (dot : DotValue) → entry dot.name + 1 < dot.number → Apart entry old
    → ((d : DotValue) → new d ≡ (same_dot dot d || old d)) → Apart entry new
apart-cloud entry old new dot l apart h d k = by_dot (same_dot dot d) refl
  where
    by_dot : (b : Bool) → same_dot dot d ≡ b → entry d.name + 1 < d.number
    by_dot true e = subst (λ x. entry x.name + 1 < x.number) (same_from_test dot d e) l
    by_dot false e = apart d (ap (λ b. b || old d) (sym e) ∙ sym (h d) ∙ k)

out_of_run : (n end m : ℕ) (old new : Bool) → new ≡ (old && not (true && (ltb n m && leb m end))) → new ≡ true → n < m → end < m
out_of_run n end m true new h k l = grind (arith, nat_tests)
out_of_run n end m false new h k l = absurd (cc (h, k))

pub old_from_new : (old b new : Bool) → new ≡ (old && b) → new ≡ true → old ≡ true
old_from_new true b new h k = refl
old_from_new false b new h k = absurd (cc (h, k))

-- and when an entry is raised over a run to its end
pub apart-raised : (entry entry' : ℕ → ℕ) (old new : DotValue → Bool) (dot : DotValue) (end : ℕ) → dot.number ≡ entry dot.name + 1 → Apart entry old
    → IsRunEnd old dot end
    → ((q : ℕ) → entry' q ≡ cond (eqb dot.name q) end (entry q)) → ((d : DotValue) → new d ≡ (old d && not (is_in_run dot end d))) → Apart entry' new
apart-raised entry entry' old new dot end is apart run raised kept d k = by_name (eqb dot.name d.name) (eqb-true dot.name d.name) refl
  where
    was : IsTrue (old d)
    was = old_from_new (old d) (not (is_in_run dot end d)) (new d) (kept d) k

    by_name : (b : Bool) → (b ≡ true → dot.name ≡ d.name) → eqb dot.name d.name ≡ b → entry' d.name + 1 < d.number
    by_name true names at =
        let entry_is : entry' d.name ≡ end = raised d.name ∙ ap (λ b. cond b end (entry d.name)) at in
        let new_is : new d ≡ (old d && not (true && (ltb dot.number d.number && leb d.number end))) = kept d
        ∙ ap (λ b. old d && not (b && (ltb dot.number d.number && leb d.number end))) at in
        let before : dot.number ≡ entry d.name + 1 = is ∙ ap (λ n. entry n + 1) (names refl) in
        let far = apart d was in
        let past = out_of_run dot.number end d.number (old d) (new d) new_is k (omega arith) in
        let with_name : ℕ → DotValue = λ n. record { name = n; number = d.number } in
        let with_number : ℕ → DotValue = λ n. record { name = dot.name; number = n } in
        let apart_end : d.number ≢ end + 1 = λ e. absurd (cc (was, ap (λ n. old (with_name n)) (names refl), ap (λ n. old (with_number n)) e, run.stops)) in
        omega arith
    by_name false names at =
        let entry_is : entry' d.name ≡ entry d.name = raised d.name ∙ ap (λ b. cond b end (entry d.name)) at in
        let far = apart d was in
        omega arith

-- what either of two vectors knows
pub known_max : (m a b : ℕ) → (leb 1 m && (leb m (max a b) || false)) ≡ ((leb 1 m && (leb m a || false)) || (leb 1 m && (leb m b || false)))
known_max m a b = grind (arith, nat_tests)

-- and its numbers stay bounded
pub bounded-cloud : (old new : DotValue → Bool) (dot : DotValue) {top : ℕ} → dot.number < top → ((d : DotValue) → IsTrue (old d) → d.number < top)
    → ((d : DotValue) → new d ≡ (same_dot dot d || old d)) → (d : DotValue) → IsTrue (new d) → d.number < top
bounded-cloud old new dot {top} l bounded h d k = by_dot (same_dot dot d) refl
  where
    by_dot : (b : Bool) → same_dot dot d ≡ b → d.number < top
    by_dot true e = subst (λ x. x.number < top) (same_from_test dot d e) l
    by_dot false e = bounded d (ap (λ b. b || old d) (sym e) ∙ sym (h d) ∙ k)

-- the greatest number of a name is that of the cloud, or the entry
pub greatest-known : (entry : ℕ → ℕ) (test : DotValue → Bool) (name above : ℕ) → Apart entry test → IsGreatest name test above
    → IsGreatest name (known entry test) (max above (entry name))
greatest-known entry test name above apart h = record {
  known = λ l. ⊎_elim
      (λ (k : entry name < above).
      let at : max above (entry name) ≡ above = omega arith in
      subst (λ n. IsTrue (known entry test (record { name = name; number = n }))) (sym at)
      (known_in_cloud entry test (record { name = name; number = above }) (omega arith) (h.known (omega arith))))
      (λ (k : above ≤ entry name). known_below entry test (record { name = name; number = max above (entry name) }) l (omega arith))
      (cases_lt (entry name) above);
  bound = λ m k. known_cases (m ≤ max above (entry name)) entry test (record { name = name; number = m }) k (λ _ below. omega arith)
      (λ _ there. let b = h.bound m there in omega arith);
}

union_by : (p x y s t : Bool) → (s ≡ true → p ≡ true) → (t ≡ true → p ≡ true)
    → (((p && (x || false)) || (p && (y || false))) || (s || t)) ≡ ((p && (x || s)) || (p && (y || t)))
union_by true true y s t h k = refl
union_by true false true true t h k = refl
union_by true false true false t h k = refl
union_by true false false true t h k = refl
union_by true false false false true h k = refl
union_by true false false false false h k = refl
union_by false x y true t h k = absurd (cc (h refl))
union_by false x y false true h k = absurd (cc (k refl))
union_by false x y false false h k = refl

-- the vectors' dots and those of both clouds are those of both sets
pub known-union : (mine yours : ℕ → ℕ) (here there : DotValue → Bool) → Apart mine here → Apart yours there → (d : DotValue)
    → ((known mine (λ _. false) d || known yours (λ _. false) d) || (here d || there d)) ≡ (known mine here d || known yours there d)
known-union mine yours here there apart apart' d =
    union_by (leb 1 d.number) (leb d.number (mine d.name)) (leb d.number (yours d.name)) (here d) (there d)
    (λ h. let l = apart d h in le-leb 1 d.number (omega arith)) (λ h. let l = apart' d h in le-leb 1 d.number (omega arith))
