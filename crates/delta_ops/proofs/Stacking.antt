-- Deltas that are joined one by one into a pair which knows a base of which they hold nothing: over plain variables.
use Rattle.std.proofs.Common.{◌≡◌, ℕ, ◌+◌, ◌<◌, ◌≤◌, length, take, get_or, Bool, true, false, ◌||◌, List, [], ◌∷◌, ◌++◌, Option, Some, None, Result, Ok, Err, refl, sym, ap, ◌∙◌, subst, arith}
use Rattle.std.specs.Prelude.{IfOk, IsSome, is_some, nat_le, ◌&&◌}
use Rattle.std.specs.List.{All}
use Rattle.std.proofs.lemmas.Bool.Decides.{nat_tests}
use Rattle.std.specs.declared.sync.Arc.{Arc}
use Rattle.std.proofs.lemmas.List.{take_more}
use Rattle.causal_context.specs.Canonical.{IsCanonical}
use Rattle.causal_context.specs.Context.{ContextValue, HasNone, has, in_cloud, known_up_to}
use Rattle.causal_join.specs.Causal.{state_of}
use Rattle.causal_join.specs.OrMap.{FieldsValue, OrMapStoreValue, OrMapValue, fields_at, or_map_at, or_map_state, path_of}
use Rattle.causal_join.proofs.Pairs.{inside-join}
use Rattle.delta_ops.specs.Group.{group_state}
use Rattle.delta_ops.specs.Log.{deltas_of}
use Rattle.delta_ops.specs.Unknown.{KnowsNoneOf}
use Rattle.delta_ops.proofs.Groups.{deltas_of-append, deltas_of-push, group-append, group-push}
use Rattle.dot_store.specs.Store.{HasNothing, HoldsSame, state_with}
use Rattle.dots.specs.Dot.{DotValue}
use Rattle.live_map.specs.Live.{PairValue}
use Rattle.op_model.specs.Meaning.{MapState, greater, state}
use Rattle.op_model.specs.Place.{Place, place_of}
use Rattle.op_model.specs.State.{IsInside, Same, join, joined}
use Rattle.op_model.proofs.Joins.{or_assoc, or_comm, same-back}
use Rattle.ordered_list.proofs.Places.{take_all}
use Rattle.trie_map.specs.Keyed.{TrieMapValue, at_keys}

-- ---- the base
-- what the left side knows of which the right side holds nothing makes no difference
joined_above : {H : Type 0} (top : H → H → H) (a b : Option H) (e g t : Bool) → (IsSome b → e ≡ false) → joined top a (e || g) b t ≡ joined top a g b t
joined_above top (Some x) (Some y) e g t above = refl
joined_above top (Some x) None e g t above = refl
joined_above top None (Some y) e g t above = rw (above refl) refl
joined_above top None None e g t above = refl

module _ {A : Type 0} where
  -- the group of the deltas of a log up to one of them, and that one
  pub taken_more : (log : List (Arc OrMapValue A)) (i : ℕ) (x : Arc OrMapValue A) → i < length log → x ≡ get_or log i x
      → group_state (deltas_of (take (i + 1) log)) ≡ join greater (group_state (deltas_of (take i log))) (or_map_state x.value)
  taken_more log i x below is =
      ap (λ l. group_state (deltas_of l)) (take_more log i x below ∙ ap (λ y. take i log ++ y ∷ []) (sym is))
      ∙ ap group_state (deltas_of-push (take i log) x) ∙ group-push (deltas_of (take i log)) x.value

module _ {Hash : Type 0} where
  -- the pair holds what the group does, and knows what the group and the base do
  abbrev pub IsStacked : ContextValue → MapState → PairValue Hash FieldsValue → Type 0
  IsStacked base group pair = ((place : Place) (d : DotValue) → at_keys fields_at pair.0 (path_of place) d ≡ group.at place d)
      × ((d : DotValue) → has pair.1 d ≡ (has base d || group.has d))

  pub stacked_none : (base : ContextValue) (pair : PairValue Hash FieldsValue) → HasNothing (at_keys fields_at pair.0)
      → ((d : DotValue) → has pair.1 d ≡ has base d) → IsStacked base (state []) pair
  stacked_none base pair nothing known = ((λ place d. nothing (path_of place) d), (λ d. known d ∙ or_comm false (has base d)))

  stacked_next : (base : ContextValue) (group : MapState) (pair : OrMapValue) (old new : PairValue Hash FieldsValue) → KnowsNoneOf base (or_map_at pair.0)
      → Same (state_of (at_keys fields_at) new) (join greater (state_of (at_keys fields_at) old) (state_of or_map_at pair))
      → IsStacked base group old → IsStacked base (join greater group (or_map_state pair)) new
  stacked_next base group pair old new above same stacked = (
    λ place d.
        let path = path_of place in
        same.at path d
        ∙ ap (λ o. joined greater o (has old.1 d) (or_map_at pair.0 path d) (has pair.1 d)) (stacked.0 place d)
        ∙ ap (λ k. joined greater (group.at place d) k (or_map_at pair.0 path d) (has pair.1 d)) (stacked.1 d)
        ∙ joined_above greater (group.at place d) (or_map_at pair.0 path d) (has base d) (group.has d) (has pair.1 d) (above path d),
    λ d. same.has d ∙ ap (λ k. k || has pair.1 d) (stacked.1 d) ∙ or_assoc (has base d) (group.has d) (has pair.1 d),
  )

  module _ {A : Type 0} where
    -- the deltas of a log up to one of them, and that one
    pub stacked_more : (base : ContextValue) (log : List (Arc OrMapValue A)) (i : ℕ) (x : Arc OrMapValue A) (pair : OrMapValue)
        (old new : PairValue Hash FieldsValue) → All (λ (delta : Arc OrMapValue A). KnowsNoneOf base (or_map_at delta.value.0)) log → i < length log → x ≡ get_or log i x
        → pair ≡ x.value → Same (state_of (at_keys fields_at) new) (join greater (state_of (at_keys fields_at) old) (state_of or_map_at pair))
        → IsStacked base (group_state (deltas_of (take i log))) old → IsStacked base (group_state (deltas_of (take (i + 1) log))) new
    stacked_more base log i x pair old new above below is value same stacked =
        subst (λ (group : MapState). IsStacked base group new) (sym (taken_more log i x below is))
        (stacked_next base (group_state (deltas_of (take i log))) x.value old new
        (subst (λ (delta : Arc OrMapValue A). KnowsNoneOf base (or_map_at delta.value.0)) (sym is) (above i x below))
        (subst (λ p. Same (state_of (at_keys fields_at) new) (join greater (state_of (at_keys fields_at) old) (state_of or_map_at p))) value same) stacked)

    pub stacked_all : (base : ContextValue) (items log : List (Arc OrMapValue A)) (i : ℕ) (pair : PairValue Hash FieldsValue) → items ≡ log → length items ≤ i
        → IsStacked base (group_state (deltas_of (take i items))) pair
        → (place : Place) (d : DotValue) → at_keys fields_at pair.0 (path_of place) d ≡ (group_state (deltas_of log)).at place d
    stacked_all base items log i pair is end stacked place d =
        stacked.0 place d ∙ ap (λ l. (group_state (deltas_of l)).at place d) (take_all items i end ∙ is)

  -- ---- the pair of what is held and what is known
  at_group : (store : OrMapStoreValue) (map : TrieMapValue Hash FieldsValue) (group : MapState) → HoldsSame (or_map_at store) (at_keys fields_at map)
      → ((place : Place) (d : DotValue) → at_keys fields_at map (path_of place) d ≡ group.at place d) → (place : Place) (d : DotValue)
      → or_map_at store (path_of place) d ≡ group.at place d
  at_group store map group listed holds place d = listed (path_of place) d ∙ holds place d

  pub inside_group : (store : OrMapStoreValue) (known : ContextValue) (map : TrieMapValue Hash FieldsValue) (group : MapState)
      → HoldsSame (or_map_at store) (at_keys fields_at map)
      → ((place : Place) (d : DotValue) → at_keys fields_at map (path_of place) d ≡ group.at place d) → ((d : DotValue) → has known d ≡ group.has d)
      → IsInside group → IsInside (state_with (or_map_at store) (has known))
  inside_group store known map group listed holds knows inside path d some =
      let place = place_of path.0 path.1.0 in
      knows d ∙ inside place d (ap is_some (sym (at_group store map group listed holds place d)) ∙ some)

  pub same_group : (whole : OrMapValue) (store : OrMapStoreValue) (known : ContextValue) (map : TrieMapValue Hash FieldsValue) (group : MapState)
      → whole ≡ (store, known) → HoldsSame (or_map_at store) (at_keys fields_at map)
      → ((place : Place) (d : DotValue) → at_keys fields_at map (path_of place) d ≡ group.at place d) → ((d : DotValue) → has known d ≡ group.has d)
      → Same (or_map_state whole) group
  same_group whole store known map group made listed holds knows =
      subst (λ p. Same (or_map_state p) group) (sym made) (record { at = at_group store map group listed holds; has = knows })

-- ---- a pair that knows a context
joined_nothing : {H : Type 0} (top : H → H → H) (a b : Option H) (s t : Bool) → a ≡ None → b ≡ None → joined top a s b t ≡ None
joined_nothing top a b s t left right = rw (left, right) refl

module _ {Hash : Type 0} where
  pub knowing_nothing : (old new : PairValue Hash FieldsValue) (pair : OrMapValue) (store : OrMapStoreValue) (context : ContextValue)
      → pair ≡ (store, context) → HasNothing (or_map_at store) → HasNothing (at_keys fields_at old.0)
      → Same (state_of (at_keys fields_at) new) (join greater (state_of (at_keys fields_at) old) (state_of or_map_at pair))
      → HasNothing (at_keys fields_at new.0)
  knowing_nothing old new pair store context made empty nothing same path d =
      same.at path d ∙ joined_nothing greater (at_keys fields_at old.0 path d) (or_map_at pair.0 path d) (has old.1 d) (has pair.1 d) (nothing path d)
      (ap (λ (p : OrMapValue). or_map_at p.0 path d) made ∙ empty path d)

  pub knowing_context : (old new : PairValue Hash FieldsValue) (pair : OrMapValue) (store : OrMapStoreValue) (context : ContextValue)
      → pair ≡ (store, context) → HasNone old.1
      → Same (state_of (at_keys fields_at) new) (join greater (state_of (at_keys fields_at) old) (state_of or_map_at pair))
      → (d : DotValue) → has new.1 d ≡ has context d
  knowing_context old new pair store context made none same d =
      same.has d ∙ ap (λ k. k || has pair.1 d) (none d) ∙ ap (λ (p : OrMapValue). has p.1 d) made

-- ---- what deltas know
inside_of_same : (p q : MapState) → Same p q → IsInside p → IsInside q
inside_of_same p q same inside place d some = sym (same.has d) ∙ inside place d (ap is_some (same.at place d) ∙ some)

pub inside_none : IsInside (state [])
inside_none place d some = absurd (cc some)

-- the dots of a context without a vector are those of its cloud, which are above 1
pub known_in_cloud : (context : ContextValue) → IsCanonical context → context.vector ≡ [] → (d : DotValue) → has context d ≡ in_cloud context.cloud d
unfolding has
known_in_cloud context canonical none d = by_cloud (in_cloud context.cloud d) refl
  where
    above : (n : ℕ) → 1 < n → nat_le 1 n ≡ true
    above n l = grind (arith, nat_tests)

    below : (n : ℕ) → (nat_le 1 n && (nat_le n 0 || false)) ≡ false
    below n = grind (arith, nat_tests)

    by_cloud : (b : Bool) → in_cloud context.cloud d ≡ b
        → (nat_le 1 d.number && (nat_le d.number (known_up_to context.vector d.name) || in_cloud context.cloud d)) ≡ in_cloud context.cloud d
    by_cloud true e =
        let past = canonical.apart d e in
        rw (e, above d.number (omega (arith, past))) (or_comm (nat_le d.number (known_up_to context.vector d.name)) true)
    by_cloud false e = rw (e, none) (below d.number)

module _ {A : Type 0} where
  group_parts : (log first second : List (Arc OrMapValue A)) → log ≡ first ++ second
      → group_state (deltas_of log) ≡ group_state (deltas_of first ++ deltas_of second)
  group_parts log first second is = ap (λ l. group_state (deltas_of l)) is ∙ ap group_state (deltas_of-append first second)

  pub known_more : (log : List (Arc OrMapValue A)) (i : ℕ) (x : Arc OrMapValue A) (pair : OrMapValue) (context old new : ContextValue) → i < length log
      → x ≡ get_or log i x → pair ≡ x.value → context ≡ pair.1 → ((d : DotValue) → has new d ≡ (has old d || has context d))
      → ((d : DotValue) → has old d ≡ (group_state (deltas_of (take i log))).has d)
      → (d : DotValue) → has new d ≡ (group_state (deltas_of (take (i + 1) log))).has d
  known_more log i x pair context old new below is value held added knows d =
      added d ∙ ap (λ k. k || has context d) (knows d)
      ∙ ap (λ c. (group_state (deltas_of (take i log))).has d || has c d) (held ∙ ap (λ (p : OrMapValue). p.1) value)
      ∙ ap (λ (group : MapState). group.has d) (sym (taken_more log i x below is))

  pub inside_more : (log : List (Arc OrMapValue A)) (i : ℕ) (x : Arc OrMapValue A) (pair : OrMapValue) → i < length log → x ≡ get_or log i x → pair ≡ x.value
      → IsInside (state_of or_map_at pair) → IsInside (group_state (deltas_of (take i log))) → IsInside (group_state (deltas_of (take (i + 1) log)))
  inside_more log i x pair below is value inside before =
      subst IsInside (sym (taken_more log i x below is))
      (inside-join greater (group_state (deltas_of (take i log))) (or_map_state x.value) before
      (λ place d some. subst (λ p. IsInside (state_of or_map_at p)) value inside (path_of place) d some))

  pub known_all : (log : List (Arc OrMapValue A)) (i : ℕ) (known : ContextValue) → length log ≤ i
      → ((d : DotValue) → has known d ≡ (group_state (deltas_of (take i log))).has d) → (d : DotValue) → has known d ≡ (group_state (deltas_of log)).has d
  known_all log i known end knows d = knows d ∙ ap (λ l. (group_state (deltas_of l)).has d) (take_all log i end)

  pub inside_all : (log : List (Arc OrMapValue A)) (i : ℕ) → length log ≤ i → IsInside (group_state (deltas_of (take i log)))
      → IsInside (group_state (deltas_of log))
  inside_all log i end inside = subst (λ l. IsInside (group_state (deltas_of l))) (take_all log i end) inside

  pub known_both : {E : Type 0} (r : Result ContextValue E) (log first second : List (Arc OrMapValue A)) (older newer : ContextValue) → log ≡ first ++ second
      → ((d : DotValue) → has older d ≡ (group_state (deltas_of first)).has d) → ((d : DotValue) → has newer d ≡ (group_state (deltas_of second)).has d)
      → IfOk r (λ both. (d : DotValue) → has both d ≡ (has older d || has newer d))
      → IfOk r (λ known. (d : DotValue) → has known d ≡ (group_state (deltas_of log)).has d)
  known_both (Ok both) log first second older newer is old new union =
      λ d. union d ∙ ap (λ k. k || has newer d) (old d) ∙ ap (λ k. (group_state (deltas_of first)).has d || k) (new d)
      ∙ sym ((group-append (deltas_of first) (deltas_of second)).has d) ∙ ap (λ (group : MapState). group.has d) (sym (group_parts log first second is))
  known_both (Err e) log first second older newer is old new union = tt

  pub inside_both : {X E : Type 0} (r : Result X E) (log first second : List (Arc OrMapValue A)) → log ≡ first ++ second
      → IsInside (group_state (deltas_of first)) → IsInside (group_state (deltas_of second)) → IfOk r (λ _. IsInside (group_state (deltas_of log)))
  inside_both (Ok x) log first second is older newer =
      subst IsInside (sym (group_parts log first second is))
      (inside_of_same _ _ (same-back _ _ (group-append (deltas_of first) (deltas_of second)))
      (inside-join greater (group_state (deltas_of first)) (group_state (deltas_of second)) older newer))
  inside_both (Err e) log first second is older newer = tt
