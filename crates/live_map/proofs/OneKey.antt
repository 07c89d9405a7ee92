-- The join of a delta at the one key that it can change: over plain variables.
use Rattle.std.proofs.Common.{◌≡◌, ◌+◌, ℕ, List, [], ◌∷◌, Bool, true, false, Option, Some, None, length, refl, sym, ◌∙◌, ap, subst, arith}
use Rattle.std.specs.Prelude.{Contains, IsTrue, IsSome, IfSome, is_some, nat_le, ◌&&◌, ◌||◌}
use Rattle.std.specs.List.{All}
use Rattle.std.proofs.lemmas.List.Elements.{All-contains, Contains-append_left, Contains-append_right, Contains-push}
use Rattle.std.proofs.lemmas.Bool.Decides.{nat_tests}
use Rattle.std.specs.FinMap as finite
use Rattle.dots.specs.Dot.{DotValue, same_dot}
use Rattle.causal_context.specs.Canonical.{IsCanonical}
use Rattle.causal_context.specs.Context.{ContextValue, has, in_cloud, is_known, known_up_to, Includes}
use Rattle.causal_context.specs.Growth.{IsOnlyNew}
use Rattle.causal_context.proofs.Dots.{same_dot-refl, same_from_test}
use Rattle.dot_store.specs.Store.{HasEachKnown, HoldsDot, HoldsSame, state_with}
use Rattle.dot_store.specs.Stores.{held_by}
use Rattle.op_model.specs.State.{joined, join, IsInside}
use Rattle.trie_map.specs.Keyed.{TrieMapValue, at_keys}
use Rattle.trie_map.specs.Joined.{IsJoinedAt}
use Rattle.trie_map.specs.Here.{HoldsAny, Writes}
use Rattle.trie_map.proofs.Here.{joins_made, here_joined, here_either}
use Rattle.live_map.specs.Index.{has_key, AreAllTouched}
use Rattle.live_map.specs.OneKey.{IsJoinedIn, IsMadeAt}
use Rattle.live_map.proofs.Changing.{touched_joined, and_first, and_second, known_none}

-- ---- the store
module _ {S P H Hash : Type 0} (at : S → P → DotValue → Option H) (greater : H → H → H) (mine : TrieMapValue Hash S) (own : DotValue → Bool)
    (yours : List ℕ × P → DotValue → Option H) (theirs : DotValue → Bool)
    (keys : List (List ℕ)) (key : List ℕ) where
  pub step_joined : AreAllTouched (at_keys at mine) yours theirs keys → ((q : List ℕ) → IsTrue (has_key keys q) → q ≡ key) → (new : TrieMapValue Hash S)
      → IsJoinedIn at greater mine.1 new.1 key own yours theirs → HoldsSame (at_keys at new)
      (join greater (state_with (at_keys at mine) own) (state_with yours theirs)).at
  step_joined all only new is =
      touched_joined at greater mine own yours theirs keys all new (here_either at greater mine own yours theirs new.1 key is.store is.holds is.joins)
      (λ q h. subst (IsJoinedAt at greater (at_keys at mine) own yours theirs new.1) (sym (only q h))
      (here_joined at greater mine own yours theirs new.1 key is.store is.holds is.joins))

  pub made_written : AreAllTouched (at_keys at mine) yours theirs keys → ((q : List ℕ) → IsTrue (has_key keys q) → q ≡ key)
      → (new : TrieMapValue Hash S) (made : Option S)
      → IsMadeAt at greater mine.1 key own yours theirs made → Writes at mine.1 new.1 key made
      → HoldsSame (at_keys at new) (join greater (state_with (at_keys at mine) own) (state_with yours theirs)).at
  made_written all only new made is written =
      step_joined all only new (record {
        store = is.store;
        holds = is.holds;
        joins = joins_made at greater own is.store theirs mine.1 new.1 key made is.joins written;
      })

-- ---- a join in place
pub none_long : {X : Type 0} (xs : List X) → length xs ≡ 0 → xs ≡ []
none_long [] e = refl
none_long (x ∷ xs) e = absurd (cc e)

or_none : (b : Bool) → IsTrue (b || false) → IsTrue b
or_none true h = refl
or_none false h = absurd (cc h)

contains_by : (x : DotValue) (cloud : List DotValue) (d : DotValue) (b : Bool) → same_dot d x ≡ b → IsTrue (b || in_cloud cloud d)
    → (IsTrue (in_cloud cloud d) → Contains cloud d) → Contains (x ∷ cloud) d
contains_by x cloud d true e h more = subst (Contains (x ∷ cloud)) (sym (same_from_test d x e)) (Contains-append_left (x ∷ []) cloud x (Contains-push [] x))
contains_by x cloud d false e h more = Contains-append_right (x ∷ []) cloud d (more h)

cloud_contains : (cloud : List DotValue) (d : DotValue) → IsTrue (in_cloud cloud d) → Contains cloud d
cloud_contains [] d h = absurd (cc h)
cloud_contains (x ∷ cloud) d h = contains_by x cloud d (same_dot d x) refl h (cloud_contains cloud d)

in_cloud_of : (n : ℕ) (t : Bool) → IsTrue (nat_le 1 n && (nat_le n 0 || t)) → IsTrue t
in_cloud_of n true h = refl
in_cloud_of n false h = absurd (known_none n (and_first (nat_le 1 n) (nat_le n 0 || false) h)
    (or_none (nat_le n 0) (and_second (nat_le 1 n) (nat_le n 0 || false) h)))

-- what a context with no vector knows, and is known here, is among those dots of its cloud that are known here
pub known_among : (own : DotValue → Bool) (theirs : ContextValue) (known : List DotValue) → theirs.vector ≡ []
    → ((d : DotValue) → has theirs d ≡ is_known theirs.vector theirs.cloud d) → All (λ d. IsTrue (own d) → Contains known d) theirs.cloud
    → (d : DotValue) → IsTrue (own d) → IsTrue (has theirs d) → Contains known d
known_among own theirs known none has_is all d mine h =
    let seen : IsTrue (is_known [] theirs.cloud d) = ap (λ v. is_known v theirs.cloud d) (sym none) ∙ sym (has_is d) ∙ h in
    All-contains (λ x. IsTrue (own x) → Contains known x) theirs.cloud d all
    (cloud_contains theirs.cloud d (in_cloud_of d.number (in_cloud theirs.cloud d) seen)) mine

module _ {S P H Hash : Type 0} (at : S → P → DotValue → Option H) (greater : H → H → H) (mine : TrieMapValue Hash S) (own theirs : DotValue → Bool)
    (key : List ℕ) (y : S) (found : List DotValue) (dot : DotValue) where
  pub fits_in : IsInside (state_with (at_keys at mine) own) → ((d : DotValue) → IsTrue (own d) → IsTrue (theirs d) → Contains found d) → own dot ≡ false
      → HoldsDot (at y) dot
      → IfSome (finite.get mine.1 key) (λ s. HasEachKnown (at s) theirs found × HoldsAny at greater s own y theirs)
  unfolding at_keys
  fits_in inside among fresh held = by_store (finite.get mine.1 key) refl
    where
      by_store : (o : Option S) → finite.get mine.1 key ≡ o → IfSome o (λ s. HasEachKnown (at s) theirs found × HoldsAny at greater s own y theirs)
      by_store None e = tt
      by_store (Some s) e =
          let known : (place : P) (d : DotValue) → IsSome (at s place d) → IsTrue (own d) = known_at s e in (
            λ place d h k. among d (known place d h) k,
            (held.0, dot, none_here (at s held.0 dot) (at y held.0 dot) (own dot) (theirs dot) (known held.0 dot) fresh held.1),
          )
        where
          known_at : (s : S) → finite.get mine.1 key ≡ Some s → (place : P) (d : DotValue) → IsSome (at s place d) → IsTrue (own d)
          known_at s e place d h = inside (key, place) d (ap (λ x. is_some (held_by at x place d)) e ∙ h)

          none_here : (x v : Option H) (o t : Bool) → (IsSome x → IsTrue o) → o ≡ false → IsSome v → IsSome (joined greater x o v t)
          none_here (Some x) v o t k f h = absurd (cc (k refl, f))
          none_here None (Some v) true t k f h = absurd (cc f)
          none_here None (Some v) false t k f h = refl
          none_here None None o t k f h = absurd (cc h)

-- ---- the context
nothing_more : (a b : Bool) → (IsTrue b → IsTrue a) → a ≡ a || b
nothing_more true b h = refl
nothing_more false true h = absurd (cc (h refl))
nothing_more false false h = refl

one_more : (s a b : Bool) → (IsTrue b → IsTrue (s || a)) → (IsTrue s → IsTrue b) → s || a ≡ a || b
one_more true true b others there = refl
one_more true false true others there = refl
one_more true false false others there = absurd (cc (there refl))
one_more false a b others there = nothing_more a b others

pub knows_included : (own theirs : ContextValue) → Includes own theirs → (d : DotValue) → has own d ≡ has own d || has theirs d
knows_included own theirs includes d = nothing_more (has own d) (has theirs d) (includes d)

pub knows_added : (own theirs new : ContextValue) (dot : DotValue) → IsOnlyNew (has own) (has theirs) (has theirs) dot
    → ((d : DotValue) → has new d ≡ same_dot dot d || has own d) → (d : DotValue) → has new d ≡ has own d || has theirs d
knows_added own theirs new dot only added d =
    added d ∙ one_more (same_dot dot d) (has own d) (has theirs d) (only.others d)
    (λ same. subst (λ e. IsTrue (has theirs e)) (same_from_test dot d same) only.is_new.present)

above_apart : (dot : DotValue) (b : Bool) → same_dot dot (record { name = dot.name; number = dot.number + 1 }) ≡ b → b ≡ false
above_apart dot false e = refl
above_apart dot true e =
    let same = same_from_test dot (record { name = dot.name; number = dot.number + 1 }) e in
    let number : dot.number ≡ dot.number + 1 = ap (λ d. d.number) same in
    absurd (omega (arith, number))

pub last_added : (own new : ContextValue) (dot : DotValue) → ((d : DotValue) → has new d ≡ same_dot dot d || has own d)
    → has own (record { name = dot.name; number = dot.number + 1 }) ≡ false → has new (record { name = dot.name; number = dot.number + 1 }) ≡ false
last_added own new dot added last =
    added (record { name = dot.name; number = dot.number + 1 })
    ∙ (λ i. above_apart dot (same_dot dot (record { name = dot.name; number = dot.number + 1 })) refl i || last i)

-- the dot just above an entry is unknown, as none of the cloud stands there
pub next_unknown : (own : ContextValue) (dot : DotValue) → IsCanonical own → dot.number ≡ known_up_to own.vector dot.name + 1 → has own dot ≡ false
unfolding has
next_unknown own dot canonical next = by_cloud (in_cloud own.cloud dot) refl
  where
    above : (n e : ℕ) → n ≡ e + 1 → (nat_le 1 n && (nat_le n e || false)) ≡ false
    above n e next = grind (arith, nat_tests)

    by_cloud : (b : Bool) → in_cloud own.cloud dot ≡ b → (nat_le 1 dot.number && (nat_le dot.number (known_up_to own.vector dot.name) || in_cloud own.cloud dot)) ≡ false
    by_cloud true e = let past = canonical.apart dot e in absurd (omega (arith, past, next))
    by_cloud false e =
        ap (λ b. nat_le 1 dot.number && (nat_le dot.number (known_up_to own.vector dot.name) || b)) e
        ∙ above dot.number (known_up_to own.vector dot.name) next

pub known_added : (own new : ContextValue) (dot : DotValue) → ((d : DotValue) → has new d ≡ same_dot dot d || has own d) → IsTrue (has new dot)
known_added own new dot added = added dot ∙ ap (λ b. b || has own dot) (same_dot-refl dot)

is_only : (s h : Bool) → IsTrue (s || h) → h ≡ false → IsTrue s
is_only true h or fresh = refl
is_only false h or fresh = absurd (cc (or, fresh))

-- the only dot that is new is each one that is
pub only_new : (here there seen : DotValue → Bool) (dot : DotValue) → IsOnlyNew here there seen dot → (d : DotValue) → here d ≡ false
    → IsTrue (seen d) → dot ≡ d
only_new here there seen dot only d fresh known = same_from_test dot d (is_only (same_dot dot d) (here d) (only.others d known) fresh)
