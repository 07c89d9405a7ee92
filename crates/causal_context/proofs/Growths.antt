-- Which dots are lacking, by the entry of each name and the test of the cloud.
use Rattle.std.proofs.Common.{◌≡◌, ℕ, ◌+◌, ◌≤◌, ◌<◌, Bool, true, false, ◌||◌, ◌&&◌, cond, List, [], ◌∷◌, ◌++◌, refl, sym, ap, subst, ◌∙◌, arith, eqb, leb, max}
use Rattle.std.proofs.Common.{eqb-true, eq-eqb}
use Rattle.std.specs.Prelude.{IsTrue}
use Rattle.std.proofs.lemmas.Bool.{and_parts, leb-true}
use Rattle.std.proofs.lemmas.Bool.Decides.{nat_tests}
use Rattle.dots.specs.Dot.{DotValue, same_dot}
use Rattle.causal_context.specs.Context.{ContextValue, has, known_up_to, in_cloud, is_known}
use Rattle.causal_context.specs.Canonical.{IsApart}
use Rattle.causal_context.specs.Growth.{IsGrowthAmong, IsNew, IsOnlyNew, is_up_to, both}
use Rattle.causal_context.specs.declared.growth.Growth.{Growth}
use Rattle.causal_context.specs.declared.growth.Growth.TheVariants.{Nothing, One, More}
use Rattle.causal_context.proofs.Clouds.{or_cases, same_dot-comm, in_cloud-push}
use Rattle.causal_context.proofs.Dots.{same_from_test}
use Rattle.causal_context.proofs.Known.{known, Apart, known_below, known_in_cloud}
use Rattle.causal_context.proofs.Vectors.{known_up_to-push_le}

or_right : (a b : Bool) → IsTrue b → IsTrue (a || b)
or_right true b h = refl
or_right false b h = h

-- what is lacking of two parts
pub growth-both : (here there seen seen' all : DotValue → Bool) (a b : Growth) → ((d : DotValue) → IsTrue (all d) → IsTrue (seen d || seen' d))
    → IsGrowthAmong here there seen a → IsGrowthAmong here there seen' b
    → IsGrowthAmong here there all (both a b)
growth-both here there seen seen' all Nothing Nothing split h k = λ d l. or_cases (IsTrue (here d)) (seen d) (seen' d) (split d l) (h d) (k d)
growth-both here there seen seen' all Nothing (One dot) split h k = record {
  is_new = k.is_new;
  others = λ d l. or_cases (IsTrue (same_dot dot d || here d)) (seen d) (seen' d) (split d l) (λ s. or_right (same_dot dot d) (here d) (h d s)) (k.others d);
}
growth-both here there seen seen' all Nothing More split h k = k
growth-both here there seen seen' all (One dot) Nothing split h k = record {
  is_new = h.is_new;
  others = λ d l. or_cases (IsTrue (same_dot dot d || here d)) (seen d) (seen' d) (split d l) (h.others d) (λ s. or_right (same_dot dot d) (here d) (k d s));
}
growth-both here there seen seen' all (One dot) (One e) split h k = (dot, h.is_new)
growth-both here there seen seen' all (One dot) More split h k = (dot, h.is_new)
growth-both here there seen seen' all More b split h k = h

-- where a part of what is there was looked at
pub growth-within : (here there there' seen : DotValue → Bool) (a : Growth) → ((d : DotValue) → IsTrue (there d) → IsTrue (there' d))
    → IsGrowthAmong here there seen a → IsGrowthAmong here there' seen a
growth-within here there there' seen Nothing sub h = h
growth-within here there there' seen (One dot) sub h = record {
  is_new = record { unknown = h.is_new.unknown; present = sub dot h.is_new.present };
  others = h.others;
}
growth-within here there there' seen More sub h = (h.0, record { unknown = h.1.unknown; present = sub h.0 h.1.present })

-- one more entry at the end
split_max : (m k a n : ℕ) (b : Bool) → k ≤ max a (cond b n 0) → IsTrue (leb 1 m && (leb m k || false))
    → IsTrue ((leb 1 m && (leb m a || false)) || (b && (leb 1 m && leb m n)))
split_max m k a n true l h = grind (arith, nat_tests)
split_max m k a n false l h = grind (arith, nat_tests)

pub known-push : (xs : List (ℕ × ℕ)) (x : ℕ × ℕ) (d : DotValue) → IsTrue (is_known (xs ++ x ∷ []) [] d) → IsTrue (is_known xs [] d || is_up_to x.0 x.1 d)
known-push xs x d h =
    let most = max (known_up_to xs d.name) (cond (eqb x.0 d.name) x.1 0) in
    split_max d.number (known_up_to (xs ++ x ∷ []) d.name) (known_up_to xs d.name) x.1 (eqb x.0 d.name)
    (known_up_to-push_le xs x d.name most (omega arith) (λ e. let same = eq-eqb x.0 d.name e in by_test (eqb x.0 d.name) same)) h
  where
    by_test : (b : Bool) → b ≡ true → x.1 ≤ max (known_up_to xs d.name) (cond b x.1 0)
    by_test true e = omega arith
    by_test false e = absurd (cc e)

-- the dots of a name up to a number
named : (P : ℕ → Type 0) (name number : ℕ) (d : DotValue) → IsTrue (is_up_to name number d) → (1 ≤ d.number → d.number ≤ number → P name) → P d.name
named P name number d h there =
    let parts = and_parts (eqb name d.name) (leb 1 d.number && leb d.number number) h in
    let bounds = and_parts (leb 1 d.number) (leb d.number number) parts.1 in
    subst P (eqb-true name d.name parts.0) (there (leb-true 1 d.number bounds.0) (leb-true d.number number bounds.1))

pub none-up_to : (entry : ℕ → ℕ) (test : DotValue → Bool) (name number : ℕ) → number ≤ entry name → (d : DotValue) → IsTrue (is_up_to name number d)
    → IsTrue (known entry test d)
none-up_to entry test name number l d h =
    let below : (1 ≤ d.number) × (d.number ≤ entry d.name) = named (λ n. (1 ≤ d.number) × (d.number ≤ entry n)) name number d h
    (λ one le. (one, omega arith)) in
    known_below entry test d below.0 below.1

unknown_by : (e : ℕ) (t : Bool) → (t ≡ true → e + 1 < e + 1) → (leb 1 (e + 1) && (leb (e + 1) e || t)) ≡ false
unknown_by e true l = absurd (let past = l refl in omega arith)
unknown_by e false l = grind (arith, nat_tests)

pub next_is_new : (entry : ℕ → ℕ) (test : DotValue → Bool) (name number : ℕ) → Apart entry test → entry name < number
    → IsNew (known entry test) (is_up_to name number) (record { name = name; number = entry name + 1 })
next_is_new entry test name number apart l = record {
  unknown = unknown_by (entry name) (test (record { name = name; number = entry name + 1 })) (apart (record { name = name; number = entry name + 1 }));
  present = grind (arith, nat_tests);
}

only_by : (m n : ℕ) (e : ℕ) (t : Bool) → n ≡ e + 1 → 1 ≤ m → m ≤ n → IsTrue ((true && eqb n m) || (leb 1 m && (leb m e || t)))
only_by m n e t is one le = grind (arith, nat_tests)

pub only-up_to : (entry : ℕ → ℕ) (test : DotValue → Bool) (name number : ℕ) (dot : DotValue) → Apart entry test → number ≡ entry name + 1
    → dot ≡ record { name = name; number = number }
    → IsOnlyNew (known entry test) (is_up_to name number) (is_up_to name number) dot
only-up_to entry test name number dot apart is at =
    let next : DotValue = record { name = name; number = entry name + 1 } in
    let with_number : ℕ → DotValue = λ n. record { name = name; number = n } in
    let here : IsOnlyNew (known entry test) (is_up_to name number) (is_up_to name number) next = record {
      is_new = next_is_new entry test name number apart (omega arith);
      others = λ d h. or_of d h;
    } in
    subst (IsOnlyNew (known entry test) (is_up_to name number) (is_up_to name number)) (sym (at ∙ ap with_number is)) here
  where
    or_of : (d : DotValue) → IsTrue (is_up_to name number d) → IsTrue (same_dot (record { name = name; number = entry name + 1 }) d || known entry test d)
    or_of d h =
        let parts = and_parts (eqb name d.name) (leb 1 d.number && leb d.number number) h in
        let bounds = and_parts (leb 1 d.number) (leb d.number number) parts.1 in
        let names = eqb-true name d.name parts.0 in
        let one = leb-true 1 d.number bounds.0 in
        let le = leb-true d.number number bounds.1 in
        let entries : entry name ≡ entry d.name = ap entry names in
        let only = only_by d.number (entry name + 1) (entry d.name) (test d) (omega arith) one (omega arith) in
        ap (λ b. (b && eqb (entry name + 1) d.number) || known entry test d) parts.0 ∙ only

-- a dot of the other is one of its vector's or of its cloud's
pub split_parts : (m e : ℕ) (t : Bool) → IsTrue (leb 1 m && (leb m e || t)) → IsTrue ((leb 1 m && (leb m e || false)) || t)
split_parts m e true h = grind (arith, nat_tests)
split_parts m e false h = grind (arith, nat_tests)

-- a dot that was seen, or this one
pub in_cloud-split : (seen : List DotValue) (x d : DotValue) → IsTrue (in_cloud (seen ++ x ∷ []) d) → IsTrue (in_cloud seen d || same_dot x d)
in_cloud-split seen x d h = ap (λ b. in_cloud seen d || b) (same_dot-comm x d) ∙ sym (in_cloud-push seen x d) ∙ h

-- the dots of an entry are there, and so is a dot of the cloud
pub entry_present : (value : ContextValue) (name number : ℕ) → known_up_to value.vector name ≡ number → (d : DotValue) → IsTrue (is_up_to name number d)
    → IsTrue (has value d)
unfolding has
entry_present value name number is d h = none-up_to (known_up_to value.vector) (in_cloud value.cloud) name number (omega arith) d h

pub item_present : (value : ContextValue) (dot : DotValue) → IsApart value.vector value.cloud → IsTrue (in_cloud value.cloud dot) → (d : DotValue)
    → IsTrue (same_dot dot d) → IsTrue (has value d)
unfolding has
item_present value dot apart h d same =
    let l = apart dot h in
    subst (λ e. IsTrue (has value e)) (same_from_test dot d same) (known_in_cloud (known_up_to value.vector) (in_cloud value.cloud) dot (omega arith) h)
