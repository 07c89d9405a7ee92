-- What a delta can change of a map, and what is joined there.
use Rattle.std.proofs.Common.{◌≡◌, ℕ, ◌≤◌, List, [], ◌∷◌, Bool, true, false, cond, Option, Some, None, refl, sym, ap, ◌∙◌, inl, inr, ⊎_elim, arith, leb-true}
use Rattle.std.specs.Prelude.{IsTrue, IsSome, is_some, ◌⊎◌, ◌&&◌, ◌||◌, nat_le, Contains}
use Rattle.std.specs.Borrow.{Bor}
use Rattle.std.specs.Option.{option_copied, unwrap_or}
use Rattle.std.specs.List.{All}
use Rattle.std.specs.Map.{lookup}
use Rattle.std.specs.BTreeMap.{is_at}
use Rattle.std.specs.Ordering.{nat_cmp, is_eq}
use Rattle.std.specs.FinMap as finite
use Rattle.std.specs.FinMap.{nat_cmp-IsAntisymmetric}
use Rattle.std.proofs.lemmas.List.Elements.{All-head, All-tail, All-contains}
use Rattle.causal_context.proofs.Dots.{same_from_test}
use Rattle.live_map.proofs.Members.{equal}
use Rattle.live_map.proofs.Places.{place_exact}
use Rattle.dots.specs.Bytes.{bytes_cmp}
use Rattle.dots.specs.Dot.{DotValue, same_dot}
use Rattle.causal_context.specs.Context.{known_up_to, in_cloud, is_known}
use Rattle.dot_store.specs.Store.{HasNothing, HoldsSame, state_with}
use Rattle.dot_store.specs.Stores.{held_by}
use Rattle.op_model.specs.State.{joined, join, IsInside}
use Rattle.ordered_list.proofs.Places.{entry_found}
use Rattle.trie_map.specs.Keyed.{TrieMapValue, at_keys}
use Rattle.trie_map.specs.Joined.{IsJoinedAt, IsEitherAt}
use Rattle.live_map.specs.Closing.{ChangesOnlyAt}
use Rattle.live_map.specs.Index.{PlaceValue, place_cmp, names, has_key, IsEnded, IsGone, IsIndexed, IsTouched, AreAllTouched}

module _ {S P H : Type 0} (at : S → P → DotValue → Option H) where
  -- what a store that was looked up holds, where an empty one stands for none
  pub held_either : (r : Option (Bor S)) (empty : Bor S) → HasNothing (at empty.now) → (place : P) (d : DotValue)
      → held_by at (option_copied r) place d ≡ at (unwrap_or r empty).now place d
  held_either None empty nothing place d = sym (nothing place d)
  held_either (Some store) empty nothing place d = refl

  -- what an entry holds and is not known is named
  pub held_named : (own : DotValue → Bool) (entries : List (List ℕ × S)) (places : List PlaceValue)
      → All (λ entry. (place : P) (d : DotValue) → IsSome (at entry.1 place d) → own d ≡ false → IsTrue (names places d entry.0)) entries
      → (q : List ℕ) (store : S) → Contains entries (q, store) → (place : P) (d : DotValue) → IsSome (at store place d) → own d ≡ false
      → IsTrue (names places d q)
  held_named own entries places all q store there place d h fresh =
      All-contains (λ (e : List ℕ × S). (p : P) (x : DotValue) → IsSome (at e.1 p x) → own x ≡ false → IsTrue (names places x e.0)) entries (q, store)
      all there place d h fresh

-- ---- at other keys the join is what was there
module _ {P H : Type 0} (mine yours : List ℕ × P → DotValue → Option H) (theirs : DotValue → Bool) (keys : List (List ℕ))
    (all : AreAllTouched mine yours theirs keys) where
  not_there : (q : List ℕ) (place : P) (d : DotValue) (o : Option H) → yours (q, place) d ≡ o → has_key keys q ≡ false → yours (q, place) d ≡ None
  not_there q place d None is apart = is
  not_there q place d (Some x) is apart = absurd (cc (apart, all.own q place d (ap is_some is)))

  not_known : (q : List ℕ) (place : P) (d : DotValue) (x : H) (b : Bool) → theirs d ≡ b → mine (q, place) d ≡ Some x → has_key keys q ≡ false → theirs d ≡ false
  not_known q place d x true e is apart = absurd (cc (apart, all.known q place d (ap is_some is) e))
  not_known q place d x false e is apart = e

  left_by : (greater : H → H → H) (own : Bool) (q : List ℕ) (place : P) (d : DotValue) (o : Option H) → mine (q, place) d ≡ o → has_key keys q ≡ false
      → mine (q, place) d ≡ joined greater (mine (q, place) d) own (yours (q, place) d) (theirs d)
  left_by greater own q place d None is apart =
      let none = not_there q place d (yours (q, place) d) refl apart in
      is ∙ (λ i. joined greater (sym is i) own (sym none i) (theirs d))
  left_by greater own q place d (Some x) is apart =
      let none = not_there q place d (yours (q, place) d) refl apart in
      let free = not_known q place d x (theirs d) refl is apart in
      is ∙ (λ i. joined greater (sym is i) own (sym none i) (sym free i))

  pub left_alone : (greater : H → H → H) (own : DotValue → Bool) (q : List ℕ) → has_key keys q ≡ false → (place : P) (d : DotValue)
      → mine (q, place) d ≡ joined greater (mine (q, place) d) (own d) (yours (q, place) d) (theirs d)
  left_alone greater own q apart place d = left_by greater (own d) q place d (mine (q, place) d) refl apart

-- ---- so a draft that is joined at these keys holds the join
module _ {S P H Hash : Type 0} (at : S → P → DotValue → Option H) (greater : H → H → H) (mine : TrieMapValue Hash S) (own : DotValue → Bool)
    (yours : List ℕ × P → DotValue → Option H) (theirs : DotValue → Bool)
    (keys : List (List ℕ)) where
  joined_by : ChangesOnlyAt greater (at_keys at mine) own yours theirs keys → (draft : finite.FinMap bytes_cmp S) (q : List ℕ) (b : Bool) → has_key keys q ≡ b
      → IsEitherAt at greater (at_keys at mine) own yours theirs draft q
      → (IsTrue (has_key keys q) → IsJoinedAt at greater (at_keys at mine) own yours theirs draft q)
      → IsJoinedAt at greater (at_keys at mine) own yours theirs draft q
  joined_by only draft q true e either there = there e
  joined_by only draft q false e either there = ⊎_elim (λ same place d. same place d ∙ only q e place d) (λ j. j) either

  pub only_joined : ChangesOnlyAt greater (at_keys at mine) own yours theirs keys → (both : TrieMapValue Hash S)
      → ((q : List ℕ) → IsEitherAt at greater (at_keys at mine) own yours theirs both.1 q)
      → ((q : List ℕ) → IsTrue (has_key keys q) → IsJoinedAt at greater (at_keys at mine) own yours theirs both.1 q)
      → HoldsSame (at_keys at both) (join greater (state_with (at_keys at mine) own) (state_with yours theirs)).at
  unfolding at_keys
  only_joined only both either there place d = joined_by only both.1 place.0 (has_key keys place.0) refl (either place.0) (there place.0) place.1 d

  pub touched_joined : AreAllTouched (at_keys at mine) yours theirs keys → (both : TrieMapValue Hash S)
      → ((q : List ℕ) → IsEitherAt at greater (at_keys at mine) own yours theirs both.1 q)
      → ((q : List ℕ) → IsTrue (has_key keys q) → IsJoinedAt at greater (at_keys at mine) own yours theirs both.1 q)
      → HoldsSame (at_keys at both) (join greater (state_with (at_keys at mine) own) (state_with yours theirs)).at
  touched_joined all both either there = only_joined (left_alone (at_keys at mine) yours theirs keys all greater own) both either there

-- ---- what is touched, by the parts of a context
pub and_first : (a b : Bool) → IsTrue (a && b) → IsTrue a
and_first true b h = refl
and_first false b h = absurd (cc h)

pub and_second : (a b : Bool) → IsTrue (a && b) → IsTrue b
and_second true b h = h
and_second false b h = absurd (cc h)

or_cases : (a b : Bool) (Q : Type 0) → IsTrue (a || b) → (IsTrue a → Q) → (IsTrue b → Q) → Q
or_cases true b Q h left right = left refl
or_cases false b Q h left right = right h

same_name : (a b : ℕ) → is_eq (nat_cmp a b) ≡ true → a ≡ b
same_name a b e = nat_cmp-IsAntisymmetric a b (equal (nat_cmp a b) e)

pub known_none : (n : ℕ) → IsTrue (nat_le 1 n) → IsTrue (nat_le n 0) → ⊥
known_none n one zero = let a : 1 ≤ n = leb-true _ _ one in let b : n ≤ 0 = leb-true _ _ zero in absurd (omega arith)

module _ (d : DotValue) (R : Type 0) where
  by_cloud : (cloud : List DotValue) → All (λ x. d ≡ x → R) cloud → IsTrue (in_cloud cloud d) → R
  by_cloud [] all h = absurd (cc h)
  by_cloud (x ∷ cloud) all h =
      or_cases (same_dot d x) (in_cloud cloud d) R h (λ here. All-head (λ y. d ≡ y → R) x cloud all (same_from_test d x here))
      (by_cloud cloud (All-tail (λ y. d ≡ y → R) x cloud all))

  by_entry : (vector : List (ℕ × ℕ)) (o : Option ℕ) → lookup (is_at (nat_cmp d.name)) vector ≡ o
      → All (λ e. d.name ≡ e.0 → 1 ≤ d.number → d.number ≤ e.1 → R) vector → IsTrue (nat_le 1 d.number) → IsTrue (nat_le d.number (unwrap_or o 0)) → R
  by_entry vector None is all one up = absurd (known_none d.number one up)
  by_entry vector (Some n) is all one up =
      let found = entry_found (λ (e : ℕ × ℕ). d.name ≡ e.0 → 1 ≤ d.number → d.number ≤ e.1 → R) (is_at (nat_cmp d.name)) vector n all is in
      found.2 (same_name d.name found.0 found.1) (leb-true _ _ one) (leb-true _ _ up)

  -- a dot that is known stands in the vector or in the cloud
  pub by_known : (vector : List (ℕ × ℕ)) (cloud : List DotValue) → All (λ e. d.name ≡ e.0 → 1 ≤ d.number → d.number ≤ e.1 → R) vector
      → All (λ x. d ≡ x → R) cloud → IsTrue (is_known vector cloud d) → R
  by_known vector cloud entries dots h =
      let one = and_first (nat_le 1 d.number) (nat_le d.number (known_up_to vector d.name) || in_cloud cloud d) h in
      or_cases (nat_le d.number (known_up_to vector d.name)) (in_cloud cloud d) R
      (and_second (nat_le 1 d.number) (nat_le d.number (known_up_to vector d.name) || in_cloud cloud d) h)
      (by_entry vector (lookup (is_at (nat_cmp d.name)) vector) refl entries one) (by_cloud cloud dots)

-- ---- the index, once the delta is joined in
-- what stands in a join stands here, or stands there and is not known here
pub held_in : {H : Type 0} (greater : H → H → H) (x : Option H) (own : Bool) (y : Option H) (theirs : Bool) (R : Type 0)
    → IsSome (joined greater x own y theirs) → (IsSome x → R) → (IsSome y → own ≡ false → R) → R
held_in greater (Some x) own y theirs R h mine yours = mine refl
held_in greater None true (Some y) theirs R h mine yours = absurd (cc h)
held_in greater None false (Some y) theirs R h mine yours = yours refl refl
held_in greater None own None theirs R h mine yours = absurd (cc h)

-- each dot that stands at a key and is not known has the key named for it
abbrev pub IsIndexedNew : {P H : Type 0} → (List ℕ × P → DotValue → Option H) → (DotValue → Bool) → List PlaceValue → Type 0
IsIndexedNew {P} at own places = (key : List ℕ) (place : P) (dot : DotValue) → IsSome (at (key, place) dot) → own dot ≡ false → IsTrue (names places dot key)

pub indexed_join : {P H : Type 0} (greater : H → H → H) (mine yours both : List ℕ × P → DotValue → Option H) (own theirs : DotValue → Bool)
    (places : List PlaceValue)
    → HoldsSame both (join greater (state_with mine own) (state_with yours theirs)).at → IsIndexed mine places → IsIndexedNew yours own places
    → IsIndexed both places
indexed_join greater mine yours both own theirs places same had has q place d h =
    held_in greater (mine (q, place) d) (own d) (yours (q, place) d) (theirs d) (IsTrue (names places d q)) (ap is_some (sym (same (q, place) d)) ∙ h)
    (had q place d) (has q place d)

pub all_touched : {P H : Type 0} (mine yours : List ℕ × P → DotValue → Option H) (own theirs : DotValue → Bool) (places : List PlaceValue)
    (keys : List (List ℕ)) → IsInside (state_with mine own) → IsIndexed mine places
    → IsTouched places own yours theirs keys → AreAllTouched mine yours theirs keys
all_touched mine yours own theirs places keys inside had touched =
    record { own = touched.held; known = λ q place d h k. touched.named d q (had q place d h) (inside (q, place) d h) k }

-- all keys are among more of them
pub all_touched_more : {P H : Type 0} (mine yours : List ℕ × P → DotValue → Option H) (theirs : DotValue → Bool) (keys more : List (List ℕ))
    → ((q : List ℕ) → IsTrue (has_key keys q) → IsTrue (has_key more q))
    → AreAllTouched mine yours theirs keys → AreAllTouched mine yours theirs more
all_touched_more mine yours theirs keys more there all = record {
  own = λ q place d h. there q (all.own q place d h);
  known = λ q place d h k. there q (all.known q place d h k);
}

not_more : (b m : Bool) → (IsTrue b → IsTrue m) → m ≡ false → b ≡ false
not_more true m there apart = absurd (cc (there refl, apart))
not_more false m there apart = refl

pub changes_only_more : {P H : Type 0} (greater : H → H → H) (mine : List ℕ × P → DotValue → Option H) (own : DotValue → Bool)
    (yours : List ℕ × P → DotValue → Option H) (theirs : DotValue → Bool) (keys more : List (List ℕ))
    → ((q : List ℕ) → IsTrue (has_key keys q) → IsTrue (has_key more q)) → ChangesOnlyAt greater mine own yours theirs keys
    → ChangesOnlyAt greater mine own yours theirs more
changes_only_more greater mine own yours theirs keys more there only q apart = only q (not_more (has_key keys q) (has_key more q) (there q) apart)

-- ---- and once a place is taken out at which nothing stands
cut_by : (b : Bool) (n : Bool) (R : Type 0) → IsTrue n → (b ≡ true → R) → IsTrue (cond b false n) ⊎ R
cut_by true n R h gone = inr (gone refl)
cut_by false n R h gone = inl h

pub indexed_cut : {P H : Type 0} (at : List ℕ × P → DotValue → Option H) (old new : List PlaceValue) (gone : PlaceValue)
    → ((d : DotValue) (q : List ℕ) → names new d q ≡ cond (is_eq (place_cmp gone (d, q))) false (names old d q))
    → ((place : P) → at (gone.1, place) gone.0 ≡ None) → IsIndexed at old → IsIndexed at new
indexed_cut at old new gone cut nothing had q place d h =
    ⊎_elim (λ (kept : IsTrue (cond (is_eq (place_cmp gone (d, q))) false (names old d q))). cut d q ∙ kept)
    (λ (no : ⊥). absurd no)
    (cut_by (is_eq (place_cmp gone (d, q))) (names old d q) ⊥ (had q place d h) (λ e.
    let same : gone ≡ (d, q) = place_exact gone (d, q) (equal (place_cmp gone (d, q)) e) in
    let none : at (q, place) d ≡ None = ap (λ p. at (p.1, place) p.0) (sym same) ∙ nothing place in
    absurd (cc (none, h))))

-- ---- where nothing stands
pub none_stands : {H : Type 0} (o : Option H) (Q : Type 0) → o ≡ None → IsSome o → Q
none_stands o Q none h = absurd (cc (none, h))

pub not_standing : {H : Type 0} (o : Option H) (known : Bool) → known ≡ false → (IsSome o → IsTrue known) → o ≡ None
not_standing None known unknown h = refl
not_standing (Some x) known unknown h = absurd (cc (unknown, h refl))

-- ---- what a delta knows and does not hold stands nowhere in the join
ended_none : {H : Type 0} (greater : H → H → H) (x : Option H) (own : Bool) (y : Option H) (theirs : Bool) → IsTrue theirs → y ≡ None
    → joined greater x own y theirs ≡ None
ended_none greater (Some x) own None true t n = refl
ended_none greater (Some x) own None false t n = absurd (cc t)
ended_none greater (Some x) own (Some y) theirs t n = absurd (cc n)
ended_none greater None own None theirs t n = refl
ended_none greater None own (Some y) theirs t n = absurd (cc n)

pub ended_gone : {P H : Type 0} (greater : H → H → H) (mine yours both : List ℕ × P → DotValue → Option H) (own theirs : DotValue → Bool)
    → HoldsSame both (join greater (state_with mine own) (state_with yours theirs)).at
    → (e : PlaceValue) → IsEnded yours theirs e → IsGone both e
ended_gone greater mine yours both own theirs same e is place = same (e.1, place) e.0
    ∙ ended_none greater (mine (e.1, place) e.0) (own e.0) (yours (e.1, place) e.0) (theirs e.0) is.0 (is.1 place)
