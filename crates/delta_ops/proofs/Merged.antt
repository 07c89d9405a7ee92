-- Deltas that are put together key by key: over plain variables.
use Rattle.std.proofs.Common.{◌≡◌, ℕ, ◌+◌, ◌<◌, ◌≤◌, length, take, get_or, cond, Bool, true, false, ◌||◌, List, [], ◌∷◌, ◌++◌, Option, Some, None, Result, Ok, Err, ◌⊎◌, inl, inr, refl, sym, ap, ◌∙◌, subst, arith}
use Rattle.std.specs.Prelude.{IfOk, IfSome, IsSome, IsTrue, nat_le, ◌&&◌}
use Rattle.std.specs.BTreeSet.{insert_key}
use Rattle.std.specs.Option.{option_or}
use Rattle.std.proofs.lemmas.Bool.{false≢true, or_parts}
use Rattle.std.proofs.lemmas.Bool.Decides.{nat_tests}
use Rattle.std.specs.declared.sync.Arc.{Arc}
use Rattle.causal_context.specs.Canonical.{IsCanonical}
use Rattle.causal_context.specs.Context.{ContextValue, has, in_cloud, is_known, known_up_to}
use Rattle.causal_context.specs.Dots.{dot_cmp}
use Rattle.causal_context.proofs.Clouds.{in_cloud-push, or_cases, same_dot-comm}
use Rattle.causal_context.proofs.Dots.{same_from_test}
use Rattle.causal_join.specs.Causal.{state_of}
use Rattle.causal_join.proofs.Pairs.{inside-join}
use Rattle.causal_join.specs.OrMap.{OrMapStoreValue, OrMapValue, or_map_at, or_map_state, path_of}
use Rattle.dot_store.specs.Stores.{at_stores}
use Rattle.delta_ops.specs.Group.{group_state}
use Rattle.delta_ops.specs.Log.{deltas_of}
use Rattle.delta_ops.specs.Merging.{AddsNew, IsGone, IsMerged}
use Rattle.delta_ops.proofs.ByKeys.{option_with_none}
use Rattle.delta_ops.proofs.Erasing.{has-insert}
use Rattle.delta_ops.proofs.Groups.{group-of_one, join-states, joined-halves}
use Rattle.delta_ops.proofs.Stacking.{inside_none, taken_more}
use Rattle.dots.specs.Dot.{DotValue, same_dot}
use Rattle.op_model.specs.Meaning.{MapState, greater, state}
use Rattle.op_model.specs.Operation.{has as is_among}
use Rattle.op_model.specs.Place.{Place}
use Rattle.op_model.specs.State.{IsInside, Same, join, joined}
use Rattle.op_model.proofs.Joins.{or_assoc, or_comm, same-itself}
use Rattle.ordered_list.proofs.Places.{take_all}

-- ---- dots that are gone
gone_left : {H : Type 0} (top : H → H → H) (b : Option H) (t : Bool) → joined top None true b t ≡ None
gone_left top (Some y) t = refl
gone_left top None t = refl

gone_right : {H : Type 0} (top : H → H → H) (a : Option H) (s : Bool) → joined top a s None true ≡ None
gone_right top (Some x) s = refl
gone_right top None s = refl

-- what is gone stays so, and what one more delta knows and does not hold is gone
gone_stays : (group : MapState) (pair : OrMapValue) (d : DotValue) → IsGone group d → IsGone (join greater group (or_map_state pair)) d
gone_stays group pair d gone =
    let after = or_map_state pair in (
      λ place. ap (λ a. joined greater a (group.has d) (after.at place d) (after.has d)) (gone.0 place)
          ∙ ap (λ s. joined greater None s (after.at place d) (after.has d)) gone.1 ∙ gone_left greater (after.at place d) (after.has d),
      ap (λ s. s || after.has d) gone.1,
    )

gone_now : (group : MapState) (pair : OrMapValue) (d : DotValue) → IsGone (or_map_state pair) d → IsGone (join greater group (or_map_state pair)) d
gone_now group pair d gone =
    let after = or_map_state pair in (
      λ place. ap (λ b. joined greater (group.at place d) (group.has d) b (after.has d)) (gone.0 place)
          ∙ ap (λ t. joined greater (group.at place d) (group.has d) None t) gone.1 ∙ gone_right greater (group.at place d) (group.has d),
      ap (λ t. group.has d || t) gone.1 ∙ or_comm (group.has d) true,
    )

-- a dot of a context's cloud is known to it
in_cloud_known : (context : ContextValue) → IsCanonical context → (d : DotValue) → in_cloud context.cloud d ≡ true → has context d ≡ true
unfolding has
in_cloud_known context canonical d h = rw (h, number d.number (canonical.apart d h)) (or_comm (nat_le d.number (known_up_to context.vector d.name)) true)
  where
    positive : (n : ℕ) → 0 < n → nat_le 1 n ≡ true
    positive n l = grind (arith, nat_tests)

    number : (n : ℕ) → known_up_to context.vector d.name + 1 < n → nat_le 1 n ≡ true
    number n l = positive n (omega (arith, l))

-- one that is not held is gone
gone_in_cloud : (pair : OrMapValue) (context : ContextValue) (store : OrMapStoreValue) (cloud : List DotValue) → context ≡ pair.1 → store ≡ pair.0
    → cloud ≡ context.cloud → IsCanonical context → (d : DotValue) → IsTrue (in_cloud cloud d) × ((place : _) → or_map_at store place d ≡ None)
    → IsGone (or_map_state pair) d
gone_in_cloud pair context store cloud known held rest canonical d missing = (
  λ place. ap (λ s. or_map_at s (path_of place) d) (sym held) ∙ missing.1 (path_of place),
  ap (λ (c : ContextValue). has c d) (sym known) ∙ in_cloud_known context canonical d (ap (λ ds. in_cloud ds d) (sym rest) ∙ missing.0),
)

pub gone_added : (pair : OrMapValue) (context : ContextValue) (store : OrMapStoreValue) (cloud old new : List DotValue) → context ≡ pair.1 → store ≡ pair.0
    → cloud ≡ context.cloud → IsCanonical context
    → ((d : DotValue) → IsTrue (is_among new d) → IsTrue (is_among old d) ⊎ (IsTrue (in_cloud cloud d) × ((place : _) → or_map_at store place d ≡ None)))
    → (d : DotValue) → IsTrue (is_among new d) → IsTrue (is_among old d) ⊎ IsGone (or_map_state pair) d
gone_added pair context store cloud old new known held rest canonical added d h = by (added d h)
  where
    by : IsTrue (is_among old d) ⊎ (IsTrue (in_cloud cloud d) × ((place : _) → or_map_at store place d ≡ None))
        → IsTrue (is_among old d) ⊎ IsGone (or_map_state pair) d
    by (inl before) = inl before
    by (inr missing) = inr (gone_in_cloud pair context store cloud known held rest canonical d missing)

-- a dot more that is not held
pub missing_more : (known fn found new : List DotValue) (store : OrMapStoreValue) (dot : DotValue) → in_cloud known dot ≡ true
    → ((place : _) → or_map_at store place dot ≡ None) → new ≡ insert_key dot_cmp found dot
    → ((d : DotValue) → IsTrue (is_among found d) → IsTrue (is_among fn d) ⊎ (IsTrue (in_cloud known d) × ((place : _) → or_map_at store place d ≡ None)))
    → (d : DotValue) → IsTrue (is_among new d) → IsTrue (is_among fn d) ⊎ (IsTrue (in_cloud known d) × ((place : _) → or_map_at store place d ≡ None))
missing_more known fn found new store dot there absent is was d h = by (same_dot dot d) refl
  where
    by : (b : Bool) → same_dot dot d ≡ b → IsTrue (is_among fn d) ⊎ (IsTrue (in_cloud known d) × ((place : _) → or_map_at store place d ≡ None))
    by true same =
        subst (λ e. IsTrue (is_among fn e) ⊎ (IsTrue (in_cloud known e) × ((place : _) → or_map_at store place e ≡ None))) (same_from_test dot d same)
        (inr (there, absent))
    by false apart = was d (ap (λ b. b || is_among found d) (sym apart) ∙ sym (has-insert dot found d) ∙ ap (λ ks. is_among ks d) (sym is) ∙ h)

module _ {A : Type 0} where
  -- those of the deltas of a log up to one of them, and that one
  pub gone_more : (log : List (Arc OrMapValue A)) (i : ℕ) (x : Arc OrMapValue A) (pair : OrMapValue) (before after : DotValue → Bool) → i < length log
      → x ≡ get_or log i x → pair ≡ x.value
      → ((d : DotValue) → IsTrue (after d) → IsTrue (before d) ⊎ IsGone (or_map_state pair) d)
      → ((d : DotValue) → IsTrue (before d) → IsGone (group_state (deltas_of (take i log))) d)
      → (d : DotValue) → IsTrue (after d) → IsGone (group_state (deltas_of (take (i + 1) log))) d
  gone_more log i x pair before after below is value added was d h =
      subst (λ (group : MapState). IsGone group d) (sym (taken_more log i x below is)) (by (added d h))
    where
      group : MapState
      group = group_state (deltas_of (take i log))

      by : IsTrue (before d) ⊎ IsGone (or_map_state pair) d → IsGone (join greater group (or_map_state x.value)) d
      by (inl old) = gone_stays group x.value d (was d old)
      by (inr new) = gone_now group x.value d (subst (λ (p : OrMapValue). IsGone (or_map_state p) d) value new)

  pub gone_all : (log : List (Arc OrMapValue A)) (i : ℕ) (dots : DotValue → Bool) (gone : ContextValue) → length log ≤ i
      → ((d : DotValue) → has gone d ≡ dots d) → ((d : DotValue) → IsTrue (dots d) → IsGone (group_state (deltas_of (take i log))) d)
      → (d : DotValue) → IsTrue (has gone d) → IsGone (group_state (deltas_of log)) d
  gone_all log i dots gone end same all d h =
      subst (λ l. IsGone (group_state (deltas_of l)) d) (take_all log i end) (all d (sym (same d) ∙ h))

-- ---- one delta more
-- nothing is left of a delta whose dots are all gone
pub nothing_left : {X : Type 0} (gone known : Bool) (a held : Option X) → (known ≡ true → gone ≡ true) → (IsSome held → known ≡ true)
    → a ≡ option_or a (cond gone None held)
nothing_left true known a held all inside = sym (option_with_none a)
nothing_left false known a None all inside = sym (option_with_none a)
nothing_left false known a (Some x) all inside = absurd (false≢true (all (inside refl)))

-- at one place and dot: of what is not gone one side at most is known
picked : {H : Type 0} (top : H → H → H) (gone : Bool) (a : Option H) (s : Bool) (b : Option H) (t : Bool) → (IsSome a → s ≡ true) → (IsSome b → t ≡ true)
    → (gone ≡ false → t ≡ true → s ≡ false) → option_or (cond gone None a) (cond gone None b) ≡ cond gone None (joined top a s b t)
picked top true a s b t mine yours apart = refl
picked top false (Some x) s (Some y) t mine yours apart = absurd (false≢true (sym (apart refl (yours refl)) ∙ mine refl))
picked top false (Some x) s None true mine yours apart = absurd (false≢true (sym (apart refl refl) ∙ mine refl))
picked top false (Some x) s None false mine yours apart = refl
picked top false None true (Some y) t mine yours apart = absurd (false≢true (sym (apart refl (yours refl))))
picked top false None false (Some y) t mine yours apart = refl
picked top false None s None t mine yours apart = refl

pub merged_next : (gone : ContextValue) (group : MapState) (pair : OrMapValue) (stores next : OrMapStoreValue) (known new : ContextValue)
    → IsInside (state_of or_map_at pair) → AddsNew gone known new (has pair.1)
    → ((place : _) (d : DotValue) → or_map_at next place d ≡ option_or (or_map_at stores place d) (cond (has gone d) None (or_map_at pair.0 place d)))
    → IsMerged gone group stores known → IsMerged gone (join greater group (or_map_state pair)) next new
merged_next gone group pair stores next known new within added put merged = record {
  holds = λ place d.
      let path = path_of place in
      put path d ∙ ap (λ o. option_or o (cond (has gone d) None (or_map_at pair.0 path d))) (merged.holds place d)
      ∙ picked greater (has gone d) (group.at place d) (group.has d) (or_map_at pair.0 path d) (has pair.1 d) (merged.inside place d) (within path d)
      (λ left there. sym (merged.knows d left) ∙ (added d left).1 there);
  knows = λ d left. (added d left).0 ∙ ap (λ k. k || has pair.1 d) (merged.knows d left);
  inside = inside-join greater group (or_map_state pair) merged.inside (λ place d. within (path_of place) d);
}

-- ---- what is known
first_part : (a b : Bool) → (a && b) ≡ true → a ≡ true
first_part true b h = refl
first_part false b h = h

-- one dot, all where none was known, and one after another
pub adds_none : (gone known : ContextValue) (dot : DotValue) → has gone dot ≡ true → AddsNew gone known known (same_dot dot)
adds_none gone known dot is_gone d left = by (same_dot dot d) refl
  where
    by : (b : Bool) → same_dot dot d ≡ b → (has known d ≡ (has known d || b)) × (b ≡ true → has known d ≡ false)
    by true same = absurd (false≢true (sym left ∙ ap (has gone) (sym (same_from_test dot d same)) ∙ is_gone))
    by false apart = (or_comm false (has known d), λ h. absurd (false≢true h))

pub adds_one : (gone old new : ContextValue) (dot : DotValue) → has old dot ≡ false → ((d : DotValue) → has new d ≡ (same_dot dot d || has old d))
    → AddsNew gone old new (same_dot dot)
adds_one gone old new dot fresh added d left = (
  added d ∙ or_comm (same_dot dot d) (has old d),
  λ same. ap (has old) (sym (same_from_test dot d same)) ∙ fresh,
)

pub adds_start : (gone known : ContextValue) → AddsNew gone known known (in_cloud [])
adds_start gone known d left = (or_comm false (has known d), λ h. absurd (false≢true h))

-- dots of two kinds
pub adds_both : (gone old found new : ContextValue) (first second both : DotValue → Bool) → ((d : DotValue) → both d ≡ (first d || second d))
    → AddsNew gone found new second → AddsNew gone old found first → AddsNew gone old new both
adds_both gone old found new first second both is next before d left =
    let was = before d left in (
      (next d left).0 ∙ ap (λ k. k || second d) was.0 ∙ or_assoc (has old d) (first d) (second d) ∙ ap (λ b. has old d || b) (sym (is d)),
      λ h. or_cases (has old d ≡ false) (first d) (second d) (sym (is d) ∙ h) was.1
          (λ same. (or_parts (has old d) (first d) (sym was.0 ∙ (next d left).1 same)).0),
    )

pub adds_same : (gone old new : ContextValue) (some same : DotValue → Bool) → ((d : DotValue) → same d ≡ some d) → AddsNew gone old new some → AddsNew gone old new same
adds_same gone old new some same is added d left = ((added d left).0 ∙ ap (λ b. has old d || b) (sym (is d)), λ h. (added d left).1 (sym (is d) ∙ h))

-- a vector of no name
no_number : (m : ℕ) → (nat_le 1 m && (nat_le m 0 || false)) ≡ false
no_number m = grind (arith, nat_tests)

pub adds_no_vector : (gone known : ContextValue) (vector : List (ℕ × ℕ)) → vector ≡ [] → AddsNew gone known known (is_known vector [])
adds_no_vector gone known vector none =
    adds_same gone known known (in_cloud []) (is_known vector []) (λ d. ap (λ v. is_known v [] d) none ∙ no_number d.number) (adds_start gone known)

-- what a context knows by its vector, and by its cloud
pub known_parts : (context : ContextValue) → IsCanonical context → (vector : List (ℕ × ℕ)) (cloud : List DotValue) → vector ≡ context.vector → cloud ≡ context.cloud
    → (d : DotValue) → has context d ≡ (is_known vector [] d || in_cloud cloud d)
unfolding has
known_parts context canonical vector cloud of_vector of_cloud d =
    split (nat_le 1 d.number) (nat_le d.number (known_up_to context.vector d.name)) (in_cloud context.cloud d) above
    ∙ ap (λ v. is_known v [] d || in_cloud context.cloud d) (sym of_vector) ∙ ap (λ ds. is_known vector [] d || in_cloud ds d) (sym of_cloud)
  where
    above : in_cloud context.cloud d ≡ true → nat_le 1 d.number ≡ true
    above h = let known = in_cloud_known context canonical d h in left_of known
      where
        left_of : (nat_le 1 d.number && (nat_le d.number (known_up_to context.vector d.name) || in_cloud context.cloud d)) ≡ true → nat_le 1 d.number ≡ true
        left_of = first_part (nat_le 1 d.number) (nat_le d.number (known_up_to context.vector d.name) || in_cloud context.cloud d)

    split : (p x c : Bool) → (c ≡ true → p ≡ true) → (p && (x || c)) ≡ ((p && (x || false)) || c)
    split true true c fits = refl
    split true false c fits = refl
    split false x true fits = absurd (false≢true (fits refl))
    split false x false fits = refl

pub adds_more : (gone old found new : ContextValue) (seen : List DotValue) (dot : DotValue) → AddsNew gone found new (same_dot dot)
    → AddsNew gone old found (in_cloud seen) → AddsNew gone old new (in_cloud (seen ++ dot ∷ []))
adds_more gone old found new seen dot next before =
    adds_both gone old found new (in_cloud seen) (same_dot dot) (in_cloud (seen ++ dot ∷ []))
    (λ d. in_cloud-push seen dot d ∙ ap (λ b. in_cloud seen d || b) (same_dot-comm d dot)) next before

-- ---- all of them
-- what a list is read as, with what is known of both
pub pair_read : (found : Option OrMapValue) (store entries : OrMapStoreValue) (all known gone : ContextValue) → store ≡ entries
    → ((d : DotValue) → has all d ≡ (has known d || has gone d)) → IfSome found (λ pair. pair ≡ (store, all))
    → IfSome found (λ whole. (whole.0 ≡ entries) × ((d : DotValue) → has whole.1 d ≡ (has known d || has gone d)))
pair_read (Some pair) store entries all known gone is both made = (
  ap (λ (p : OrMapValue). p.0) made ∙ is,
  λ d. ap (λ (p : OrMapValue). has p.1 d) made ∙ both d,
)
pair_read None store entries all known gone is both made = tt

pub merged_none : (gone : ContextValue) (stores : OrMapStoreValue) (known : ContextValue) → stores ≡ [] → ((d : DotValue) → has known d ≡ false)
    → IsMerged gone (state []) stores known
unfolding at_stores
merged_none gone stores known none knows = record {
  holds = λ place d. ap (λ s. or_map_at s (path_of place) d) none ∙ nothing (has gone d);
  knows = λ d left. knows d;
  inside = inside_none;
}
  where
    nothing : {X : Type 0} (b : Bool) → ◌≡◌ {A = Option X} None (cond b None None)
    nothing true = refl
    nothing false = refl

module _ {A : Type 0} where
  -- the deltas of a log up to one of them, and that one
  pub merged_more : (log : List (Arc OrMapValue A)) (i : ℕ) (x : Arc OrMapValue A) (pair : OrMapValue) (gone known new : ContextValue)
      (stores next : OrMapStoreValue) → i < length log → x ≡ get_or log i x → pair ≡ x.value
      → ((group : MapState) → IsMerged gone group stores known → IsMerged gone (join greater group (or_map_state pair)) next new)
      → IsMerged gone (group_state (deltas_of (take i log))) stores known
      → IsMerged gone (group_state (deltas_of (take (i + 1) log))) next new
  merged_more log i x pair gone known new stores next below is value step merged =
      subst (λ (group : MapState). IsMerged gone group next new) (sym (taken_more log i x below is))
      (subst (λ (p : OrMapValue). IsMerged gone (join greater (group_state (deltas_of (take i log))) (or_map_state p)) next new) value
      (step (group_state (deltas_of (take i log))) merged))

  pub merged_all : {E : Type 0} (r : Result (Option OrMapValue) E) (log : List (Arc OrMapValue A)) (i : ℕ) (gone known : ContextValue) (stores : OrMapStoreValue)
      → length log ≤ i → ((d : DotValue) → IsTrue (has gone d) → IsGone (group_state (deltas_of log)) d)
      → IsMerged gone (group_state (deltas_of (take i log))) stores known → IfOk r (λ found. IfSome found (λ whole. (whole.0 ≡ stores) × ((d : DotValue) → has whole.1 d ≡ (has known d || has gone d))))
      → IfOk r (λ found. IfSome found (λ whole. Same (or_map_state whole) (group_state (deltas_of log))))
  merged_all (Ok (Some whole)) log i gone known stores end are_gone merged is = record {
    at = λ place d. ap (λ s. or_map_at s (path_of place) d) is.0 ∙ all.holds place d ∙ left place d (has gone d) refl;
    has = λ d. is.1 d ∙ known_or_gone d (has gone d) refl;
  }
    where
      group : MapState
      group = group_state (deltas_of log)

      all : IsMerged gone group stores known
      all = subst (λ l. IsMerged gone (group_state (deltas_of l)) stores known) (take_all log i end) merged

      left : (place : Place) (d : DotValue) (b : Bool) → has gone d ≡ b → cond b None (group.at place d) ≡ group.at place d
      left place d true h = sym ((are_gone d h).0 place)
      left place d false h = refl

      known_or_gone : (d : DotValue) (b : Bool) → has gone d ≡ b → (has known d || b) ≡ group.has d
      known_or_gone d true h = or_comm (has known d) true ∙ sym ((are_gone d h).1)
      known_or_gone d false h = or_comm (has known d) false ∙ all.knows d h
  merged_all (Ok None) log i gone known stores end are_gone merged is = tt
  merged_all (Err e) log i gone known stores end are_gone merged is = tt

  -- the first of a log, joined with the others
  pub merged_first : (log others : List (Arc OrMapValue A)) (first : Arc OrMapValue A) (older newer whole : OrMapValue) → log ≡ first ∷ others
      → older ≡ first.value → Same (or_map_state newer) (group_state (deltas_of others))
      → Same (state_of or_map_at whole) (join greater (state_of or_map_at older) (state_of or_map_at newer))
      → Same (or_map_state whole) (group_state (deltas_of log))
  merged_first log others first older newer whole parts value right is =
      joined-halves {E = Unit} (Ok whole) log (first ∷ []) others first.value newer parts
      (group-of_one first.value first.value (same-itself (or_map_state first.value))) right
      (join-states whole first.value newer
      (subst (λ p. Same (state_of or_map_at whole) (join greater (state_of or_map_at p) (state_of or_map_at newer))) value is))
