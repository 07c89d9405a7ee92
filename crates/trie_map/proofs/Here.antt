-- A join at one key, written in place.
use Rattle.std.proofs.Common.{◌≡◌, ℕ, List, Bool, true, false, Option, Some, None, refl, sym, ◌∙◌, ap, subst, inl, inr}
use Rattle.std.specs.Prelude.{Result, Ok, Err, OnOk, OnErr, IfOk, IsTrue, is_some, MatchOption}
use Rattle.std.specs.Borrow.{Bor}
use Rattle.std.specs.Option.{option_copied, unwrap_or}
use Rattle.std.specs.Ordering.{eq_by_cmp}
use Rattle.std.specs.FinMap as finite
use Rattle.dots.specs.Bytes.{bytes_cmp}
use Rattle.dots.specs.Dot.{DotValue}
use Rattle.dot_store.specs.Store.{HasNothing, HoldsSame}
use Rattle.dot_store.specs.Stores.{held_by}
use Rattle.op_model.specs.State.{joined}
use Rattle.hash_path.proofs.Words.{tied_same}
use Rattle.trie_map.specs.Keyed.{TrieMapValue, at_keys}
use Rattle.trie_map.specs.Joined.{both_at, IsJoinedAt, IsEitherAt}
use Rattle.gen_trie.specs.Changes.{ChangesValue}
use Rattle.gen_trie.specs.Shown.{Shown}
use Rattle.trie_map.specs.Here.{IsWritten, Writes, IsJoinHere, IsJoinOf, JoinsHere, with_store}
use Rattle.trie_map.proofs.Written.{Each, get_put, get_apart, get_cut, get_cut_apart, each_insert}

module _ {S P H : Type 0} (at : S → P → DotValue → Option H) where
  -- what stands at a key, where an empty store stands for none
  pub stands_here : (o : Option S) (r : Option (Bor S)) (empty : Bor S) → option_copied r ≡ o → HasNothing (at empty.now) → (place : P) (d : DotValue)
      → held_by at o place d ≡ at (unwrap_or r empty).now place d
  stands_here o None empty is nothing place d = ap (λ x. held_by at x place d) (sym is) ∙ sym (nothing place d)
  stands_here o (Some s) empty is nothing place d = ap (λ x. held_by at x place d) (sym is)

  pub written_cut : (old new : finite.FinMap bytes_cmp S) (key : List ℕ) (store : S) → new ≡ finite.remove old key → HasNothing (at store)
      → IsWritten at old new key store
  written_cut old new key store is none = record {
    apart = λ q e. ap (λ m. finite.get m q) is ∙ get_cut_apart at old key q e;
    here = λ place d. ap (λ o. held_by at o place d) (ap (λ m. finite.get m key) is ∙ get_cut at old key) ∙ sym (none place d);
  }

  pub written_put : (old new : finite.FinMap bytes_cmp S) (key : List ℕ) (store : S) → new ≡ finite.insert old key store → IsWritten at old new key store
  written_put old new key store is = record {
    apart = λ q e. ap (λ m. finite.get m q) is ∙ get_apart at old key store q e;
    here = λ place d. ap (λ o. held_by at o place d) (ap (λ m. finite.get m key) is ∙ get_put at old key store);
  }

  module _ (greater : H → H → H) (own : DotValue → Bool) (yours : S) (theirs : DotValue → Bool) where
    module _ (o : Option S) (mine both : S) (holds : (place : P) (d : DotValue) → held_by at o place d ≡ at mine place d)
        (joins : HoldsSame (at both) (both_at at greater mine own yours theirs)) where
      pub join_some : IsJoinHere at greater o own yours theirs (Some both)
      join_some place d = joins place d ∙ (λ i. joined greater (sym (holds place d) i) (own d) (at yours place d) (theirs d))

      pub join_none : HoldsSame (at both) (at mine) → IsJoinHere at greater o own yours theirs None
      join_none same place d = holds place d ∙ sym (same place d) ∙ join_some place d

    module _ (idem : (x : H) → greater x x ≡ x) where
      join_equal : (x : Option H) (y : Option H) (o t : Bool) → x ≡ y → x ≡ joined greater x o y t
      join_equal None None o t e = refl
      join_equal None (Some y) o t e = absurd (cc e)
      join_equal (Some x) None o t e = absurd (cc e)
      join_equal (Some x) (Some y) o t e = let same : x ≡ y = cc in ap Some (sym (idem x) ∙ ap (greater x) same)

      pub join_same : (o : Option S) (mine : S) → ((place : P) (d : DotValue) → held_by at o place d ≡ at mine place d) → HoldsSame (at mine) (at yours)
          → IsJoinHere at greater o own yours theirs None
      join_same o mine holds same place d = join_equal (held_by at o place d) (at yours place d) (own d) (theirs d) (holds place d ∙ same place d)

    pub joins_none : (m : finite.FinMap bytes_cmp S) (key : List ℕ) → IsJoinHere at greater (finite.get m key) own yours theirs None
        → JoinsHere at greater m m key own yours theirs
    joins_none m key is = record { apart = λ q e. refl; here = is }

    pub joins_some : (old new : finite.FinMap bytes_cmp S) (key : List ℕ) (both : S) → IsJoinHere at greater (finite.get old key) own yours theirs (Some both)
        → IsWritten at old new key both → JoinsHere at greater old new key own yours theirs
    joins_some old new key both is written = record { apart = written.apart; here = λ place d. written.here place d ∙ is place d }

    pub joins_made : (old new : finite.FinMap bytes_cmp S) (key : List ℕ) (made : Option S) → IsJoinHere at greater (finite.get old key) own yours theirs made
        → Writes at old new key made → JoinsHere at greater old new key own yours theirs
    joins_made old new key None is written = subst (λ n. JoinsHere at greater old n key own yours theirs) (sym written) (joins_none old key is)
    joins_made old new key (Some both) is written = joins_some old new key both is written

  -- ---- the whole map, once one key was joined
  module _ (greater : H → H → H) {Hash : Type 0} (mine : TrieMapValue Hash S) (own : DotValue → Bool) (yours : List ℕ × P → DotValue → Option H)
      (theirs : DotValue → Bool) (new : finite.FinMap bytes_cmp S) (key : List ℕ) (y : S)
      (yours_holds : (place : P) (d : DotValue) → yours (key, place) d ≡ at y place d) (step : JoinsHere at greater mine.1 new key own y theirs) where
    pub here_joined : IsJoinedAt at greater (at_keys at mine) own yours theirs new key
    unfolding at_keys
    here_joined place d = step.here place d
        ∙ (λ i. joined greater (held_by at (finite.get mine.1 key) place d) (own d) (sym (yours_holds place d) i) (theirs d))

    apart_kept : (q : List ℕ) → eq_by_cmp bytes_cmp q key ≡ false → (place : P) (d : DotValue)
        → held_by at (finite.get new q) place d ≡ at_keys at mine (q, place) d
    unfolding at_keys
    apart_kept q t place d = ap (λ o. held_by at o place d) (step.apart q t)

    pub here_either : (q : List ℕ) → IsEitherAt at greater (at_keys at mine) own yours theirs new q
    here_either q = by_test (eq_by_cmp bytes_cmp q key) refl
      where
        by_test : (b : Bool) → eq_by_cmp bytes_cmp q key ≡ b → IsEitherAt at greater (at_keys at mine) own yours theirs new q
        by_test true t = inr (subst (IsJoinedAt at greater (at_keys at mine) own yours theirs new) (sym (tied_same q key t)) here_joined)
        by_test false t = inl (apart_kept q t)

-- ---- a change in place
module _ {Hash S : Type 0} (becomes : S → S → Type 0) (key : List ℕ) (old new : Shown Hash S) where
  -- a fact of each store holds on, where it holds of what the change makes
  pub each_changed : {E : Type 0} (Q : S → Type 0) → ((s both : S) → becomes s both → Q both) → Each Q old.map → (r : Result Bool E)
      → OnOk r (MatchOption (finite.get old.map key) (new ≡ old) (ChangesValue becomes key old new))
      → OnErr r (new ≡ record old { sealed = new.sealed }) → Each Q new.map
  each_changed Q made all (Ok there) ok err = by_store (finite.get old.map key) ok
    where
      by_store : (o : Option S) → MatchOption o (new ≡ old) (ChangesValue becomes key old new) → Each Q new.map
      by_store None same = subst (Each Q) (sym (ap (λ m. m.map) same)) all
      by_store (Some s) change = subst (Each Q) (sym (ap (λ m. m.map) change.rest))
          (each_insert Q old.map key change.value all (made s change.value change.change))
  each_changed Q made all (Err e) ok err = subst (Each Q) (sym (ap (λ m. m.map) err)) all

  module _ {P H : Type 0} (at : S → P → DotValue → Option H) (greater : H → H → H) (own : DotValue → Bool) (yours : S) (theirs : DotValue → Bool)
      (joins : (s both : S) → becomes s both → IsJoinOf at greater s own yours theirs both) where
    changed_here : (s : S) → finite.get old.map key ≡ Some s → ChangesValue becomes key old new s → JoinsHere at greater old.map new.map key own yours theirs
    changed_here s found change =
        let is : new.map ≡ finite.insert old.map key change.value = ap (λ m. m.map) change.rest in
        let both = joins s change.value change.change in
        record {
          apart = λ q e. ap (λ m. finite.get m q) is ∙ get_apart at old.map key change.value q e;
          here = λ place d. ap (λ o. held_by at o place d) (ap (λ m. finite.get m key) is ∙ get_put at old.map key change.value) ∙ both.holds place d
              ∙ (λ i. joined greater (held_by at (sym found i) place d) (own d) (at yours place d) (theirs d));
        }

    -- where something stood there, it is the join that stands there now
    pub joined_in : {E : Type 0} (r : Result Bool E) → IfOk r (λ there. there ≡ is_some (finite.get old.map key))
        → OnOk r (MatchOption (finite.get old.map key) (new ≡ old) (ChangesValue becomes key old new))
        → IfOk r (λ there. IsTrue there → JoinsHere at greater old.map new.map key own yours theirs)
    joined_in (Ok there) is ok = λ t. by_store (finite.get old.map key) refl ok (sym is ∙ t)
      where
        by_store : (o : Option S) → finite.get old.map key ≡ o → MatchOption o (new ≡ old) (ChangesValue becomes key old new) → is_some o ≡ true
            → JoinsHere at greater old.map new.map key own yours theirs
        by_store None found same t = absurd (cc t)
        by_store (Some s) found change t = changed_here s found change
    joined_in (Err e) is ok = is
