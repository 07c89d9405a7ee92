-- The prefixes that it goes through.
use Rattle.std.proofs.Common.{◌≡◌, ◌⊎◌, inl, inr, ℕ, zero, suc, ◌+◌, ◌≤◌, ◌<◌, List, [], ◌∷◌, ◌++◌, length, get_or, take, Result, Ok, Err, Bool, true, false}
use Rattle.std.proofs.Common.{not, Some, None, refl, sym, ap, subst, arith, ◌∙◌, eq-eqb}
use Rattle.std.specs.Prelude.{Option, ◌&&◌}
use Rattle.std.specs.Option.{option_eq}
use Rattle.std.specs.Result.{OnOk}
use Rattle.std.specs.Str.{bytes_eq}
use Rattle.std.proofs.lemmas.Slice.Eq.{bytes_eq-Decides}
use Rattle.std.proofs.Math.Nat.{eq-or-lt_of_le}
use Rattle.std.specs.List.{Contains}
use Rattle.std.specs.BTreeSet.{insert_key}
use Rattle.dots.specs.Bytes.{bytes_cmp}
use Rattle.std.specs.FinMap as finite
use Rattle.std.proofs.Math.Seq.{take-suc}
use Rattle.causal_join.specs.OrMap.{FieldsValue}
use Rattle.hash_path.specs.Word.{begins}
use Rattle.hash_path.specs.Map.{path}
use Rattle.op_model.specs.Shown.{IsAscending}
use Rattle.prefix_digest.specs.Page.{digest_at}
use Rattle.sync_model.specs.Differ.{Held}
use Rattle.sync_model.specs.Laws.{NoClash}
use Rattle.sync_model.proofs.Members.{In, In-Contains, Contains-In}
use Rattle.sync_model.proofs.Prefixes.{begins_further, length-further, next_below}
use Rattle.map_changes.specs.Changes.{IsChanged}
use Rattle.map_changes.specs.Searching.{Finds, IsUnder, Covers, CoversAt, AreLong, GoesBelow}
use Rattle.map_changes.proofs.Same.{not_changed, changed_back, on_a_side}
use Rattle.delta_ops.proofs.Keeping.{more_ascend, more_keeps, more_only}

-- ---- what is so where it was done

pub on_ok : {T E : Type 0} {P Q : Type 0} (r : Result T E) → OnOk r P → (P → Q) → OnOk r Q
on_ok (Ok x) p f = f p
on_ok (Err e) p f = p

pub on_ok_both : {T E : Type 0} {P Q R : Type 0} (r : Result T E) → OnOk r P → OnOk r Q → (P → Q → R) → OnOk r R
on_ok_both (Ok x) p q f = f p q
on_ok_both (Err e) p q f = p

-- ---- keys that are found

module _ (older newer : Held) where
  pub nothing_found : (old : List (List ℕ)) → Finds older newer old old
  nothing_found old = record { ascending = λ h. h; kept = λ key h. h; only = λ key h. inl h }

  pub finds_more : (a b c : List (List ℕ)) → Finds older newer a b → Finds older newer b c → Finds older newer a c
  finds_more a b c f g = record {
    ascending = λ h. g.ascending (f.ascending h);
    kept = λ key h. g.kept key (f.kept key h);
    only = λ key h. elim (g.only key h) [
      | inl there ↦ f.only key there
      | inr differs ↦ inr differs
    ];
  }

  pub finds_one : (old found new : List (List ℕ)) (key : List ℕ) → Finds older newer old found → new ≡ insert_key bytes_cmp found key
      → IsChanged older newer key → Finds older newer old new
  finds_one old found new key f is differs = record {
    ascending = λ h. more_ascend found new key is (f.ascending h);
    kept = λ q h. more_keeps found new key is q (f.kept q h);
    only = λ q h. elim (more_only found new key is q h) [
      | inl same ↦ inr (subst (IsChanged older newer) (sym same) differs)
      | inr there ↦ f.only q there
    ];
  }

  pub finds_back : (a b : List (List ℕ)) → Finds newer older a b → Finds older newer a b
  finds_back a b f = record {
    ascending = f.ascending;
    kept = f.kept;
    only = λ key h. elim (f.only key h) [
      | inl there ↦ inl there
      | inr differs ↦ inr (changed_back newer older key differs)
    ];
  }

-- ---- prefixes that are added

module _ (prefix : List ℕ) where
  pub none_below : (old : List (List ℕ)) → GoesBelow prefix old old
  none_below old = record { kept = λ q h. h; long = λ q h. inl h }

  pub in_snoc : (xs : List (List ℕ)) (x : List ℕ) → In (xs ++ x ∷ []) x
  in_snoc [] x = inl refl
  in_snoc (y ∷ xs) x = inr (in_snoc xs x)

  in_front : (xs : List (List ℕ)) (x q : List ℕ) → In xs q → In (xs ++ x ∷ []) q
  in_front (y ∷ xs) x q (inl e) = inl e
  in_front (y ∷ xs) x q (inr h) = inr (in_front xs x q h)
  in_front [] x q h = absurd h

  from_snoc : (xs : List (List ℕ)) (x q : List ℕ) → In (xs ++ x ∷ []) q → In xs q ⊎ (x ≡ q)
  from_snoc [] x q (inl e) = inr e
  from_snoc [] x q (inr h) = absurd h
  from_snoc (y ∷ xs) x q (inl e) = inl (inl e)
  from_snoc (y ∷ xs) x q (inr h) = elim (from_snoc xs x q h) [
    | inl there ↦ inl (inr there)
    | inr e ↦ inr e
  ]

  pub there_last : (xs : List (List ℕ)) (x : List ℕ) → Contains (xs ++ x ∷ []) x
  there_last xs x = Contains-In (xs ++ x ∷ []) x (in_snoc xs x)

  pub there_before : (xs : List (List ℕ)) (x q : List ℕ) → Contains xs q → Contains (xs ++ x ∷ []) q
  there_before xs x q h = Contains-In (xs ++ x ∷ []) q (in_front xs x q (In-Contains xs q h))

  pub one_below : (old now : List (List ℕ)) (index : ℕ) → length prefix < 7 → GoesBelow prefix old now
      → GoesBelow prefix old (now ++ (prefix ++ index ∷ []) ∷ [])
  one_below old now index short f = record {
    kept = λ q h. there_before now (prefix ++ index ∷ []) q (f.kept q h);
    long = λ q h. elim (from_snoc now (prefix ++ index ∷ []) q (In-Contains (now ++ (prefix ++ index ∷ []) ∷ []) q h)) [
      | inl there ↦ f.long q (Contains-In now q there)
      | inr e ↦ inr (
          let long = length-further prefix index in
          subst (λ x. (length x ≡ suc (length prefix)) × (length x ≤ 7)) e (long, omega (arith, long, short)))
    ];
  }

-- ---- the children of a prefix

-- digests that are not told to differ are equal
pub same_digests : (a b : Option (List ℕ)) → false ≡ not (option_eq bytes_eq a b) → a ≡ b
same_digests None None e = refl
same_digests None (Some y) e = absurd cc
same_digests (Some x) None e = absurd cc
same_digests (Some x) (Some y) e = ap Some ((bytes_eq-Decides x y).0 (not_false (bytes_eq x y) e))
  where
    not_false : (b : Bool) → false ≡ not b → b ≡ true
    not_false true e = refl
    not_false false e = absurd cc

module _ (hash_of : List ℕ → ℕ) (older newer : Held) (prefix : List ℕ) where
  -- of these children each is added at which the digests differ
  abbrev pub AddsChildren : ℕ → List (List ℕ) → Type 0
  AddsChildren most next =
      (i : ℕ) → i < most → (digest_at hash_of older (prefix ++ i ∷ []) ≡ digest_at hash_of newer (prefix ++ i ∷ [])) ⊎ Contains next (prefix ++ i ∷ [])

  pub one_child : (index : ℕ) (old new : List (List ℕ)) → AddsChildren index old → ((q : List ℕ) → Contains old q → Contains new q)
      → (digest_at hash_of older (prefix ++ index ∷ []) ≡ digest_at hash_of newer (prefix ++ index ∷ [])) ⊎ Contains new (prefix ++ index ∷ [])
      → AddsChildren (suc index) new
  one_child index old new before kept here i less = elim (eq-or-lt_of_le (omega (arith, less))) [
    | inl e ↦ subst (λ k. (digest_at hash_of older (prefix ++ k ∷ []) ≡ digest_at hash_of newer (prefix ++ k ∷ [])) ⊎ Contains new (prefix ++ k ∷ []))
        (sym e) here
    | inr lower ↦ elim (before i lower) [
      | inl same ↦ inl same
      | inr there ↦ inr (kept (prefix ++ i ∷ []) there)
    ]
  ]

  pub all_children : (next found : List (List ℕ)) → length prefix < 7 → NoClash hash_of older newer [] → AddsChildren 32 next
      → CoversAt hash_of older newer prefix found next
  all_children next found short no_clash all key differs under =
      let i = get_or (path hash_of key) (length prefix) 0 in
      let long = length-further prefix i in
      let on = begins_further prefix (path hash_of key) i ∙ (λ t. under t && eq-eqb i i refl t) in
      elim (all i (next_below hash_of prefix key short)) [
        | inl same ↦ absurd (not_changed hash_of older newer no_clash (prefix ++ i ∷ []) (omega (arith, long, short)) same key on differs)
        | inr there ↦ inr (prefix ++ i ∷ [], there, on)
      ]

-- ---- prefixes, one after another

module _ (hash_of : List ℕ → ℕ) (older newer : Held) where
  -- each key that is changed under the prefixes gone through is found, or under one that is to be gone through
  abbrev pub GoneThrough : List (List ℕ) → List (List ℕ) → List (List ℕ) → Type 0
  GoneThrough gone found next = (q : List ℕ) → Contains gone q → CoversAt hash_of older newer q found next

  pub still_covered : (q : List ℕ) (found found' next next' : List (List ℕ)) → ((key : List ℕ) → Contains found key → Contains found' key)
      → ((p : List ℕ) → Contains next p → Contains next' p) → CoversAt hash_of older newer q found next → CoversAt hash_of older newer q found' next'
  still_covered q found found' next next' keys prefixes covers key differs under = elim (covers key differs under) [
    | inl there ↦ inl (keys key there)
    | inr on ↦ inr (on.0, prefixes on.0 on.1, on.2)
  ]

  -- what was found, and is under no prefix
  pub found_or_none : (q : List ℕ) (found next : List (List ℕ)) → CoversAt hash_of older newer q [] next → CoversAt hash_of older newer q found next
  found_or_none q found next covers = still_covered q [] found next next (λ key h. absurd (In-Contains [] key h)) (λ p h. h) covers

  -- the keys under a prefix were gone through in the one map and in the other
  pub both_gathered : (other : List ℕ → ℕ) (q : List ℕ) (f g next : List (List ℕ)) → other ≡ hash_of
      → ((key : List ℕ) (fields : FieldsValue) → finite.get older key ≡ Some fields → begins q (path hash_of key) ≡ true → IsChanged older newer key
      → Contains f key)
      → ((key : List ℕ) (fields : FieldsValue) → finite.get newer key ≡ Some fields → begins q (path other key) ≡ true → IsChanged newer older key
      → Contains g key)
      → Finds newer older f g → CoversAt hash_of older newer q g next
  both_gathered other q f g next same first second finds key differs under = elim (on_a_side older newer key differs) [
    | inl (fields, e) ↦ inl (finds.kept key (first key fields e under differs))
    | inr (fields, e) ↦ inl (second key fields e (ap (λ (h : List ℕ → ℕ). begins q (path h key)) same ∙ under) (changed_back older newer key differs))
  ]

  pub none_gone : (found next : List (List ℕ)) → GoneThrough [] found next
  none_gone found next q h = absurd (In-Contains [] q h)

  pub one_gone : (gone : List (List ℕ)) (prefix : List ℕ) (found found' next next' : List (List ℕ)) → GoneThrough gone found next
      → Finds older newer found found' → GoesBelow prefix next next' → CoversAt hash_of older newer prefix found' next'
      → GoneThrough (gone ++ prefix ∷ []) found' next'
  one_gone gone prefix found found' next next' before finds below covers q h = elim (from_snoc prefix gone prefix q (In-Contains (gone ++ prefix ∷ []) q h)) [
    | inl there ↦ still_covered q found found' next next' finds.kept below.kept (before q (Contains-In gone q there))
    | inr e ↦ subst (λ x. CoversAt hash_of older newer x found' next') e covers
  ]

  pub all_gone : (level old new next : List (List ℕ)) → Finds older newer old new → GoneThrough level new next → Covers hash_of older newer old level
      → Covers hash_of older newer new next
  all_gone level old new next finds gone covers key differs = elim (covers key differs) [
    | inl there ↦ inl (finds.kept key there)
    | inr on ↦ gone on.0 on.1 key differs on.2
  ]

  -- at the root all are under the one prefix of no index, and past the last index there is none
  pub all_at_root : (found : List (List ℕ)) → Covers hash_of older newer found ([] ∷ [])
  all_at_root found key differs = inr ([], Contains-In ([] ∷ []) [] (inl refl), refl)

  pub none_past : (found level : List (List ℕ)) → AreLong 8 level → Covers hash_of older newer found level → (key : List ℕ) → IsChanged older newer key
      → Contains found key
  none_past found level long covers key differs = elim (covers key differs) [
    | inl there ↦ there
    | inr on ↦ absurd (let past = (long on.0 on.1).1 in omega (arith, past))
  ]

pub taken_one : (xs : List (List ℕ)) (i : ℕ) (x : List ℕ) → i < length xs → x ≡ get_or xs i x → take (i + 1) xs ≡ take i xs ++ x ∷ []
taken_one xs i x within is = let next : i + 1 ≡ suc i = omega arith in ap (λ n. take n xs) next ∙ take-suc xs i x within
    ∙ ap (λ y. take i xs ++ y ∷ []) (sym is)

-- ---- how long the prefixes are

-- those that are added are one index longer than those that are gone through
abbrev pub AreLonger : List (List ℕ) → List (List ℕ) → Type 0
AreLonger level next = (depth : ℕ) → AreLong depth level → AreLong (suc depth) next

pub none_longer : (level : List (List ℕ)) → AreLonger level []
none_longer level depth long q h = absurd (In-Contains [] q h)

pub one_longer : (level : List (List ℕ)) (prefix : List ℕ) (old new : List (List ℕ)) → Contains level prefix → GoesBelow prefix old new → AreLonger level old
    → AreLonger level new
one_longer level prefix old new there below before depth long q h = elim (below.long q h) [
  | inl was ↦ before depth long q was
  | inr more ↦
      let here = (long prefix there).0 in
      let is = more.0 in
      let most = more.1 in
      (is ∙ ap suc here, omega (arith, is, most, here))
]

pub root_is_long : AreLong 0 ([] ∷ [])
root_is_long q h = elim (In-Contains ([] ∷ []) q h) [
  | inl e ↦ (sym (ap length e), omega arith)
  | inr none ↦ absurd none
]
