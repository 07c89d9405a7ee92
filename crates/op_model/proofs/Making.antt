-- Operations made at a state and at the set that it stands for are the same.
use Rattle.std.proofs.Common.{◌≡◌, ℕ, ◌+◌, ◌-◌, ◌<◌, max, List, [], ◌∷◌, refl, sym, ap, ◌∙◌, ◌⊎◌, inl, inr, Bool, true, false, cond, ◌&&◌, ◌||◌, Some, None}
use Rattle.std.proofs.Common.{arith, eqb-true}
use Rattle.std.specs.Prelude.{◌==◌, IsTrue, IsSome, is_some, ◌↔◌}
use Rattle.std.specs.Set.{distinct_count, is_member}
use Rattle.std.specs.Cmp.{IsEquivalence}
use Rattle.std.proofs.lemmas.Bool.{false≢true, cases_order, cases_lt, or_left, or_right}
use Rattle.std.proofs.lemmas.List.{append-nil}
use Rattle.std.proofs.lemmas.Map.Made.{length-from_keys}
use Rattle.dots.specs.declared.dot.Dot.{Dot}
use Rattle.dots.specs.Dot.{same_dot}
use Rattle.op_model.specs.Place.{Place, place_of, same_place}
use Rattle.op_model.specs.State.{Same, IsInside}
use Rattle.op_model.specs.Operation.{Write, Operation, Wrote, ids, has, known}
use Rattle.op_model.specs.Shown.{is_on, shown, shown_within, shown_anywhere}
use Rattle.op_model.specs.Meaning.{MapState, greater_if, state}
use Rattle.op_model.specs.Made.{greatest_number, next, dot_at, write_at, put_at, erasure, remove_at, remove_field_at, clear_at, removed_at, field_removed_at}
use Rattle.op_model.specs.Made.{cleared_at, IsNext, IsPutAt, IsFieldRemoveAt, IsRemoveAt, IsClearAt, IsWithin, IsAnywhere, Counts}
use Rattle.op_model.proofs.Dots.{same_dot-true, same_dot-self, same_dot-symm, from_has}
use Rattle.op_model.proofs.SameSets.{both_ways}
use Rattle.op_model.proofs.Union.{at-state, under_cond}
use Rattle.op_model.proofs.Showing.{dots_standing, dots_within, dots_anywhere}
use Rattle.op_model.proofs.Fresh.{greatest_number-above, shown_known}

pub same_dots : (d e : Dot) → d.name ≡ e.name → d.number ≡ e.number → d ≡ e
same_dots d e p q = λ i. record { name = p i; number = q i }

-- the greatest number of a name is that of a dot, or 0
which : (b : Bool) (n m : ℕ) → (cond b (max n m) m ≡ m) ⊎ ((b ≡ true) × (cond b (max n m) m ≡ n))
which true n m = elim (cases_lt n m) [ inl h ↦ inl (omega arith) | inr h ↦ inr (refl, omega arith) ]
which false n m = inl refl

reached_step : (name : ℕ) (c : Dot) (ds : List Dot) (m : ℕ) → (m ≡ 0) ⊎ (has ds (record { name = name; number = m }) ≡ true) →
    let g : ℕ = cond (c.name == name) (max c.number m) m in (g ≡ 0) ⊎ (has (c ∷ ds) (record { name = name; number = g }) ≡ true)
reached_step name c ds m h =
    let g : ℕ = cond (c.name == name) (max c.number m) m in
    elim (which (c.name == name) c.number m) [
      | inl e ↦ elim h [
        | inl zero_there ↦ inl (e ∙ zero_there)
        | inr there ↦ inr (or_right (same_dot c (record { name = name; number = g })) (has ds (record { name = name; number = g }))
            (ap (λ n. has ds (record { name = name; number = n })) e ∙ there))
      ]
      | inr e ↦
          let same : c ≡ record { name = name; number = g } = same_dots c (record { name = name; number = g }) (eqb-true c.name name e.0) (sym e.1) in
          inr (or_left (same_dot c (record { name = name; number = g })) (has ds (record { name = name; number = g }))
          (ap (same_dot c) (sym same) ∙ same_dot-self c))
    ]

pub greatest_number-reached : (name : ℕ) (ds : List Dot) → (greatest_number name ds ≡ 0)
    ⊎ (has ds (record { name = name; number = greatest_number name ds }) ≡ true)
greatest_number-reached name [] = inl refl
greatest_number-reached name (c ∷ ds) = reached_step name c ds (greatest_number name ds) (greatest_number-reached name ds)

pub next-IsNext : (name : ℕ) (ds : List Dot) → IsNext name (has ds) (next name ds)
next-IsNext name ds = record {
  named = refl;
  above = λ d named h. let bound = greatest_number-above name ds d (from_has ds d h) named in omega arith;
  least =
      let back : greatest_number name ds + 1 - 1 ≡ greatest_number name ds = omega arith in
      elim (greatest_number-reached name ds) [
        | inl e ↦ inl (omega arith)
        | inr e ↦ inr (ap (λ n. has ds (record { name = name; number = n })) back ∙ e)
      ];
}

-- there is one next dot
not_below : (name : ℕ) (knows : Dot → Bool) (d e : Dot) → IsNext name knows d → IsNext name knows e → d.number < e.number → ⊥
not_below name knows d e m n lt =
    elim n.least [
      | inl one ↦ elim m.least [
        | inl also_one ↦ absurd (omega arith)
        | inr before ↦ let bound = m.above (record { name = name; number = d.number - 1 }) refl before in absurd (omega arith)
      ]
      | inr before ↦ let bound = m.above (record { name = name; number = e.number - 1 }) refl before in absurd (omega arith)
    ]

pub IsNext-one : (name : ℕ) (knows : Dot → Bool) (d e : Dot) → IsNext name knows d → IsNext name knows e → d ≡ e
IsNext-one name knows d e m n =
    same_dots d e (m.named ∙ sym n.named)
    (elim (cases_order d.number e.number) [
      | inl same ↦ same
      | inr apart ↦ elim apart [ inl lt ↦ absurd (not_below name knows d e m n lt) | inr lt ↦ absurd (not_below name knows e d n m lt) ]
    ])

pub IsNext-same : (name : ℕ) (f g : Dot → Bool) (d : Dot) → ((dot : Dot) → f dot ≡ g dot) → IsNext name f d → IsNext name g d
IsNext-same name f g d same n = record {
  named = n.named;
  above = λ e named h. n.above e named (same e ∙ h);
  least = elim n.least [ inl one ↦ inl one | inr before ↦ inr (sym (same (record { name = name; number = d.number - 1 })) ∙ before) ];
}

-- the state of one write, and of an erasure
pub at-write : (w : Write) (place : Place) (dot : Dot) →
    (state (Wrote w ∷ [])).at place dot ≡ cond (has w.over dot) None (cond (is_on place w) (greater_if (same_dot w.id dot) w.value None) None)
at-write w place dot =
    at-state (Wrote w ∷ []) place dot
    ∙ (λ i. cond (has (append-nil w.over i) dot) None (under_cond dot (is_on place w) w [] i))

pub has-write : (w : Write) (dot : Dot) → (state (Wrote w ∷ [])).has dot ≡ (same_dot w.id dot || has w.over dot)
has-write w dot = ap (λ ds. same_dot w.id dot || has ds dot) (append-nil w.over)

pub at-erasure : (ds : List Dot) (place : Place) (dot : Dot) → (state (erasure ds)).at place dot ≡ None
at-erasure [] place dot = refl
at-erasure (d ∷ ds) place dot = refl

pub has-erasure : (ds : List Dot) (dot : Dot) → (state (erasure ds)).has dot ≡ has ds dot
has-erasure [] dot = refl
has-erasure (d ∷ ds) dot = ap (λ es. has es dot) (append-nil (d ∷ ds))

-- the state of a write goes by what it observed as a set
pub write-same : (v w : Write) → v.id ≡ w.id → v.place ≡ w.place → v.value ≡ w.value → ((dot : Dot) → has v.over dot ≡ has w.over dot) →
    Same (state (Wrote v ∷ [])) (state (Wrote w ∷ []))
write-same v w id place value over = record {
  at = λ k dot.
      at-write v k dot
      ∙ (λ i. cond (over dot i) None (cond (same_place (place i) k) (greater_if (same_dot (id i) dot) (value i) None) None))
      ∙ sym (at-write w k dot);
  has = λ dot. has-write v dot ∙ (λ i. same_dot (id i) dot || over dot i) ∙ sym (has-write w dot);
}

pub erasure-same : (ds es : List Dot) → ((dot : Dot) → has ds dot ≡ has es dot) → Same (state (erasure ds)) (state (erasure es))
erasure-same ds es over = record {
  at = λ k dot. at-erasure ds k dot ∙ sym (at-erasure es k dot);
  has = λ dot. has-erasure ds dot ∙ over dot ∙ sym (has-erasure es dot);
}

-- how many dots are as P says, of which these are all
same_dot_equivalence : IsEquivalence same_dot
same_dot_equivalence = record {
  refl = same_dot-self;
  symm = same_dot-symm;
  congr = λ x y z h. ap (λ d. same_dot d z) (same_dot-true x y h);
}

has-is_member : (ds : List Dot) (dot : Dot) → has ds dot ≡ is_member same_dot ds dot
has-is_member [] dot = refl
has-is_member (d ∷ ds) dot = λ i. same_dot-symm d dot i || has-is_member ds dot i

counted : (P : Dot → Type 0) (ds : List Dot) (n : ℕ) → Counts P n → ((dot : Dot) → IsTrue (has ds dot) ↔ P dot) → n ≡ distinct_count same_dot ds
counted P ds n c all =
    c.number
    ∙ length-from_keys same_dot_equivalence c.dots ds c.apart
    (λ q. sym (has-is_member c.dots q) ∙ both_ways (has c.dots q) (has ds q) (λ h. (all q).1 ((c.just q).0 h)) (λ h. (c.just q).1 ((all q).0 h))
    ∙ has-is_member ds q)

-- a write's value stands at its key under its dot alone
pub at-write-own : (w : Write) → has w.over w.id ≡ false → (place : Place) (dot : Dot) →
    (state (Wrote w ∷ [])).at place dot ≡ cond (is_on place w && same_dot w.id dot) (Some w.value) None
at-write-own w new place dot =
    at-write w place dot ∙ by (is_on place w) (same_dot w.id dot) (has w.over dot) (λ e. sym (ap (has w.over) (same_dot-true w.id dot e)) ∙ new)
  where
    by : (b s h : Bool) → (s ≡ true → h ≡ false) → cond h None (cond b (greater_if s w.value None) None) ≡ cond (b && s) (Some w.value) None
    by true true true f = absurd (false≢true (sym (f refl)))
    by true true false f = refl
    by true false true f = refl
    by true false false f = refl
    by false s true f = refl
    by false s false f = refl

-- what stands is known
pub state-inside : (S : List Operation) → IsInside (state S)
state-inside S place dot h = shown_known S (is_on place) dot (dots_standing S place dot ∙ h)

module _ (S : List Operation) (p : MapState) (same : Same p (state S)) where
  standing_same : (place : Place) (dot : Dot) → is_some (p.at place dot) ≡ has (ids (shown S place)) dot
  standing_same place dot = ap is_some (same.at place dot) ∙ sym (dots_standing S place dot)

  -- the dots of a key, and all, at the state and at the set
  within_same : (key : List ℕ) (dot : Dot) → IsTrue (has (ids (shown_within S key)) dot) ↔ IsWithin p key dot
  within_same key dot = (
    λ h. let stands = (dots_within S key dot).0 h in (stands.0, ap is_some (same.at (place_of key stands.0) dot) ∙ stands.1),
    λ (field, h). (dots_within S key dot).1 (field, sym (ap is_some (same.at (place_of key field) dot)) ∙ h),
  )

  anywhere_same : (dot : Dot) → IsTrue (has (ids (shown_anywhere S)) dot) ↔ IsAnywhere p dot
  anywhere_same dot = (
    λ h. let stands = (dots_anywhere S dot).0 h in (stands.0, ap is_some (same.at stands.0 dot) ∙ stands.1),
    λ (place, h). (dots_anywhere S dot).1 (place, sym (ap is_some (same.at place dot)) ∙ h),
  )

  -- an erasure of just the dots that are as P says, made at the state and at the set
  erasure_made : (P : Dot → Type 0) (over ds : List Dot) → ((dot : Dot) → IsTrue (has over dot) ↔ P dot) → ((dot : Dot) → IsTrue (has ds dot) ↔ P dot) →
      Same (state (erasure over)) (state (erasure ds))
  erasure_made P over ds m n =
      erasure-same over ds (λ dot. both_ways (has over dot) (has ds dot) (λ h. (n dot).1 ((m dot).0 h)) (λ h. (m dot).1 ((n dot).0 h)))

  -- what a put, a remove of a key, a remove of a field and a clear made at the state stand for
  pub put_made : (name : ℕ) (place : Place) (value : List ℕ) (w : Write) → IsPutAt p name place value w
      → Same (state (Wrote w ∷ [])) (state (put_at S name place value))
  put_made name place value w m =
      let v : Write = record { id = dot_at S name; place = place; value = value; over = ids (shown S place) } in
      let id : w.id ≡ v.id = IsNext-one name (has (known S)) w.id v.id (IsNext-same name p.has (has (known S)) w.id same.has m.id)
      (next-IsNext name (known S)) in
      write-same w v id m.same_place m.same_value (λ dot. m.over dot ∙ standing_same place dot)

  pub field_remove_made : (place : Place) (over : List Dot) → IsFieldRemoveAt p place over → Same (state (erasure over)) (state (remove_field_at S place))
  field_remove_made place over m = erasure-same over (ids (shown S place)) (λ dot. m dot ∙ standing_same place dot)

  pub remove_made : (key : List ℕ) (over : List Dot) → IsRemoveAt p key over → Same (state (erasure over)) (state (remove_at S key))
  remove_made key over m = erasure_made (IsWithin p key) over (ids (shown_within S key)) m (within_same key)

  pub clear_made : (over : List Dot) → IsClearAt p over → Same (state (erasure over)) (state (clear_at S))
  clear_made over m = erasure_made (IsAnywhere p) over (ids (shown_anywhere S)) m anywhere_same

  -- and there is one: what is made at the set is made at the state
  pub put_there : (name : ℕ) (place : Place) (value : List ℕ) → IsPutAt p name place value (write_at S name place value)
  put_there name place value = record {
    id = IsNext-same name (has (known S)) p.has (dot_at S name) (λ dot. sym (same.has dot)) (next-IsNext name (known S));
    same_place = refl;
    same_value = refl;
    over = λ dot. sym (standing_same place dot);
  }

  pub field_remove_there : (place : Place) → IsFieldRemoveAt p place (ids (shown S place))
  field_remove_there place dot = sym (standing_same place dot)

  pub remove_there : (key : List ℕ) → IsRemoveAt p key (ids (shown_within S key))
  remove_there = within_same

  pub clear_there : IsClearAt p (ids (shown_anywhere S))
  clear_there = anywhere_same

  -- the dot of a put, and the counts
  pub put_dot : (name : ℕ) (dot : Dot) → IsNext name p.has dot → dot ≡ dot_at S name
  put_dot name dot m = IsNext-one name (has (known S)) dot (dot_at S name) (IsNext-same name p.has (has (known S)) dot same.has m) (next-IsNext name (known S))

  pub field_remove_count : (place : Place) (n : ℕ) → Counts (λ dot. IsSome (p.at place dot)) n → n ≡ field_removed_at S place
  field_remove_count place n c =
      counted (λ dot. IsSome (p.at place dot)) (ids (shown S place)) n c
      (λ dot. (λ h. standing_same place dot ∙ h, λ h. sym (standing_same place dot) ∙ h))

  pub remove_count : (key : List ℕ) (n : ℕ) → Counts (IsWithin p key) n → n ≡ removed_at S key
  remove_count key n c = counted (IsWithin p key) (ids (shown_within S key)) n c (within_same key)

  pub clear_count : (n : ℕ) → Counts (IsAnywhere p) n → n ≡ cleared_at S
  clear_count n c = counted (IsAnywhere p) (ids (shown_anywhere S)) n c anywhere_same
