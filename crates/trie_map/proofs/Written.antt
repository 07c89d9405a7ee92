-- Joins of maps, key by key.
use Rattle.std.proofs.Common.{◌≡◌, ℕ, List, cond, Bool, true, false, Option, Some, None, refl, sym, ◌∙◌, ap, subst, inl, inr, ⊎_elim}
use Rattle.std.specs.Prelude.{is_some, Result, Ok, Err, OnOk, OnErr}
use Rattle.std.specs.Borrow.{Bor}
use Rattle.std.specs.Option.{option_copied, unwrap_or}
use Rattle.std.specs.Ordering.{eq_by_cmp}
use Rattle.std.specs.Cmp.Lexicographic.{nat_list_cmp_total}
use Rattle.std.specs.FinMap as finite
use Rattle.std.specs.FinMap.{get-empty, get-insert, get-remove}
use Rattle.dots.specs.Bytes.{bytes_cmp}
use Rattle.dots.specs.Dot.{DotValue}
use Rattle.dot_store.specs.Store.{HasNothing, HoldsSame}
use Rattle.dot_store.specs.Stores.{held_by}
use Rattle.dot_store.proofs.Stores.{held_at_some}
use Rattle.dot_store.specs.Store.{state_with}
use Rattle.op_model.specs.State.{joined, join}
use Rattle.hash_path.proofs.Words.{same_tied, tied_same}
use Rattle.trie_map.specs.Keyed.{TrieMapValue, at_keys}
use Rattle.trie_map.specs.Joined.{both_at, JoinsAt, IsJoinedAt, IsEitherAt, AreJoined}

-- ---- a fact of each store
module _ {S : Type 0} (Q : S → Type 0) where
  abbrev pub Each : finite.FinMap bytes_cmp S → Type 0
  Each m = (key : List ℕ) (store : S) → finite.get m key ≡ Some store → Q store

  pub each_none : (m : finite.FinMap bytes_cmp S) → m ≡ finite.empty → Each m
  each_none m is key store has = absurd (let gone : None ≡ Some store = sym (get-empty bytes_cmp key) ∙ ap (λ n. finite.get n key) (sym is) ∙ has in cc)

  pub each_insert : (m : finite.FinMap bytes_cmp S) (key : List ℕ) (store : S) → Each m → Q store → Each (finite.insert m key store)
  each_insert m key store all here q s is = step (eq_by_cmp bytes_cmp q key) (sym (get-insert nat_list_cmp_total m key store q) ∙ is)
    where
      step : (b : Bool) → cond b (Some store) (finite.get m q) ≡ Some s → Q s
      step true e = let same : store ≡ s = cc in subst Q same here
      step false e = all q s e

  each_cut : (m : finite.FinMap bytes_cmp S) (key : List ℕ) → Each m → Each (finite.remove m key)
  each_cut m key all q s is = step (eq_by_cmp bytes_cmp q key) (sym (get-remove nat_list_cmp_total m key q) ∙ is)
    where
      step : (b : Bool) → cond b None (finite.get m q) ≡ Some s → Q s
      step true e = absurd (cc e)
      step false e = all q s e

  pub each_remove : (m n : finite.FinMap bytes_cmp S) (key : List ℕ) → Each m → n ≡ finite.remove m key → Each n
  each_remove m n key all is = subst Each (sym is) (each_cut m key all)

  pub each_after_insert : {E : Type 0} (r : Result (Unit {0}) E) (m n : finite.FinMap bytes_cmp S) (key : List ℕ) (store : S) → Each m → Q store
      → OnOk r (n ≡ finite.insert m key store) → OnErr r (n ≡ m) → Each n
  each_after_insert (Ok u) m n key store all here ok err = subst Each (sym ok) (each_insert m key store all here)
  each_after_insert (Err e) m n key store all here ok err = subst Each (sym err) all

module _ {S P H : Type 0} (at : S → P → DotValue → Option H) where
  -- ---- what is written at one key
  pub get_put : (m : finite.FinMap bytes_cmp S) (key : List ℕ) (store : S) → finite.get (finite.insert m key store) key ≡ Some store
  get_put m key store = get-insert nat_list_cmp_total m key store key ∙ ap (λ b. cond b (Some store) (finite.get m key)) (same_tied key key refl)

  pub get_apart : (m : finite.FinMap bytes_cmp S) (key : List ℕ) (store : S) (q : List ℕ) → eq_by_cmp bytes_cmp q key ≡ false
      → finite.get (finite.insert m key store) q ≡ finite.get m q
  get_apart m key store q apart = get-insert nat_list_cmp_total m key store q ∙ ap (λ b. cond b (Some store) (finite.get m q)) apart

  pub get_cut : (m : finite.FinMap bytes_cmp S) (key : List ℕ) → finite.get (finite.remove m key) key ≡ None
  get_cut m key = get-remove nat_list_cmp_total m key key ∙ ap (λ b. cond b None (finite.get m key)) (same_tied key key refl)

  pub get_cut_apart : (m : finite.FinMap bytes_cmp S) (key q : List ℕ) → eq_by_cmp bytes_cmp q key ≡ false → finite.get (finite.remove m key) q ≡ finite.get m q
  get_cut_apart m key q apart = get-remove nat_list_cmp_total m key q ∙ ap (λ b. cond b None (finite.get m q)) apart

  module _ (greater : H → H → H) (mine : S) (own : DotValue → Bool) (yours : S) (theirs : DotValue → Bool) (both : S)
      (joins : HoldsSame (at both) (both_at at greater mine own yours theirs)) where
    abbrev wanted : P → DotValue → Option H
    wanted = both_at at greater mine own yours theirs

    -- nothing is written where the first store holds what the join does
    pub joins_kept : (m : finite.FinMap bytes_cmp S) (key : List ℕ) → HoldsSame (at both) (at mine) → JoinsAt at greater m m key mine own yours theirs
    joins_kept m key same = record {
      apart = λ q e. refl;
      here = λ h. ⊎_elim (λ (as_mine : HoldsSame (held_by at (finite.get m key)) (at mine)) place d. as_mine place d ∙ sym (same place d) ∙ joins place d)
          (λ already. already) h;
      written = λ differs. absurd (differs (λ place d. sym (same place d) ∙ joins place d));
    }

    -- a store that the join leaves empty goes
    pub joins_cut : (old new : finite.FinMap bytes_cmp S) (key : List ℕ) → new ≡ finite.remove old key → HasNothing (at both)
        → JoinsAt at greater old new key mine own yours theirs
    joins_cut old new key is none =
        let gone : HoldsSame (held_by at (finite.get new key)) wanted =
        λ place d. ap (λ o. held_by at o place d) (ap (λ m. finite.get m key) is ∙ get_cut old key) ∙ sym (none place d) ∙ joins place d in
        record {
          apart = λ q e. ap (λ m. finite.get m q) is ∙ get_cut_apart old key q e;
          here = λ _. gone;
          written = λ _. gone;
        }

    -- another one is put there
    pub joins_put : (old new : finite.FinMap bytes_cmp S) (key : List ℕ) → new ≡ finite.insert old key both
        → JoinsAt at greater old new key mine own yours theirs
    joins_put old new key is =
        let there : HoldsSame (held_by at (finite.get new key)) wanted =
        λ place d. ap (λ o. held_by at o place d) (ap (λ m. finite.get m key) is ∙ get_put old key both) ∙ joins place d in
        record {
          apart = λ q e. ap (λ m. finite.get m q) is ∙ get_apart old key both q e;
          here = λ _. there;
          written = λ _. there;
        }

  -- ---- a store that is there, and an empty one where there is none
  pub holds_found : {Hash : Type 0} (map : TrieMapValue Hash S) (key : List ℕ) (store : S) → finite.get map.1 key ≡ Some store → (place : P) (d : DotValue)
      → at_keys at map (key, place) d ≡ at store place d
  unfolding at_keys
  holds_found map key store is place d = held_at_some at (finite.get map.1 key) store place d is

  pub nothing_at : {Hash : Type 0} (map : TrieMapValue Hash S) (key : List ℕ) (place : P) (d : DotValue) → finite.get map.1 key ≡ None
      → at_keys at map (key, place) d ≡ None
  unfolding at_keys
  nothing_at map key place d is = ap (λ x. held_by at x place d) is

  pub holds_empty : {Hash : Type 0} (map : TrieMapValue Hash S) (key : List ℕ) (empty : S) → finite.get map.1 key ≡ None → HasNothing (at empty)
      → (place : P) (d : DotValue) → at_keys at map (key, place) d ≡ at empty place d
  holds_empty map key empty is nothing place d = nothing_at map key place d is ∙ sym (nothing place d)

  -- a draft that is the map holds what it does
  pub held_where : {Hash : Type 0} (draft map : TrieMapValue Hash S) (q : List ℕ) → draft ≡ map → (place : P) (d : DotValue)
      → held_by at (finite.get draft.1 q) place d ≡ at_keys at map (q, place) d
  unfolding at_keys
  held_where draft map q is place d = ap (λ p. held_by at (finite.get p.1 q) place d) is

  pub none_copied : (r : Option (Bor S)) → is_some r ≡ false → option_copied r ≡ None
  none_copied None e = refl
  none_copied (Some s) e = absurd (cc e)

  pub some_copied : (r : Option (Bor S)) → is_some r ≡ true → (s : S) × (option_copied r ≡ Some s)
  some_copied None e = absurd (cc e)
  some_copied (Some s) e = (s.now, refl)

  pub holds_either : {Hash : Type 0} (map : TrieMapValue Hash S) (key : List ℕ) (r : Option (Bor S)) (empty : Bor S) → option_copied r ≡ finite.get map.1 key
      → HasNothing (at empty.now)
      → (place : P) (d : DotValue) → at_keys at map (key, place) d ≡ at (unwrap_or r empty).now place d
  holds_either map key None empty is nothing = holds_empty map key empty.now (sym is) nothing
  holds_either map key (Some store) empty is nothing = holds_found map key store.now (sym is)

  module _ (greater : H → H → H) (mine : List ℕ × P → DotValue → Option H) (own : DotValue → Bool) (yours : List ℕ × P → DotValue → Option H)
      (theirs : DotValue → Bool) where
    abbrev Joined : finite.FinMap bytes_cmp S → List ℕ → Type 0
    Joined = IsJoinedAt at greater mine own yours theirs

    abbrev Either : finite.FinMap bytes_cmp S → Type 0
    Either draft = (q : List ℕ) → IsEitherAt at greater mine own yours theirs draft q

    -- one key more is joined
    module _ (draft new : finite.FinMap bytes_cmp S) (key : List ℕ) (x y : S) (mine_holds : (place : P) (d : DotValue) → mine (key, place) d ≡ at x place d)
        (yours_holds : (place : P) (d : DotValue) → yours (key, place) d ≡ at y place d)
        (before : Either draft) (step : JoinsAt at greater draft new key x own y theirs) where
      wanted_is : (place : P) (d : DotValue) → both_at at greater x own y theirs place d
          ≡ joined greater (mine (key, place) d) (own d) (yours (key, place) d) (theirs d)
      wanted_is place d i = joined greater (sym (mine_holds place d) i) (own d) (sym (yours_holds place d) i) (theirs d)

      pub joined_here : Joined new key
      joined_here place d =
          step.here (⊎_elim
          (λ e. inl (λ p q. e p q ∙ mine_holds p q))
          (λ j. inr (λ p q. j p q ∙ sym (wanted_is p q)))
          (before key)) place d
          ∙ wanted_is place d

      pub joined_apart : (q : List ℕ) → eq_by_cmp bytes_cmp q key ≡ false → Joined draft q → Joined new q
      joined_apart q apart was place d = ap (λ o. held_by at o place d) (step.apart q apart) ∙ was place d

      pub joined_kept : (q : List ℕ) → Joined draft q → Joined new q
      joined_kept q was = by_test (eq_by_cmp bytes_cmp q key) refl
        where
          by_test : (b : Bool) → eq_by_cmp bytes_cmp q key ≡ b → Joined new q
          by_test true t = subst (Joined new) (sym (tied_same q key t)) joined_here
          by_test false t = joined_apart q t was

      pub either_more : Either new
      either_more q = by_test (eq_by_cmp bytes_cmp q key) refl
        where
          by_test : (b : Bool) → eq_by_cmp bytes_cmp q key ≡ b → IsEitherAt at greater mine own yours theirs new q
          by_test true t = inr (subst (Joined new) (sym (tied_same q key t)) joined_here)
          by_test false t = ⊎_elim (λ e. inl (λ place d. ap (λ o. held_by at o place d) (step.apart q t) ∙ e place d))
              (λ j. inr (joined_apart q t j)) (before q)

  -- once both maps were gone through, the draft holds the join
  module _ (greater : H → H → H) {Hash : Type 0} (mine yours : TrieMapValue Hash S) (own theirs : DotValue → Bool) where
    abbrev Holds : finite.FinMap bytes_cmp S → finite.FinMap bytes_cmp S → Type 0
    Holds = AreJoined at greater (at_keys at mine) own (at_keys at yours) theirs

    all_by : (draft : finite.FinMap bytes_cmp S) (q : List ℕ) (x y : Option S) → finite.get mine.1 q ≡ x → finite.get yours.1 q ≡ y → Holds mine.1 draft
        → Holds yours.1 draft → IsJoinedAt at greater (at_keys at mine) own (at_keys at yours) theirs draft q
    all_by draft q (Some s) y is_x is_y first second = first.there q s is_x
    all_by draft q None (Some s) is_x is_y first second = second.there q s is_y
    all_by draft q None None is_x is_y first second =
        ⊎_elim (λ e place d. e place d ∙ nothing_at mine q place d is_x
        ∙ (λ i. joined greater (sym (nothing_at mine q place d is_x) i) (own d) (sym (nothing_at yours q place d is_y) i) (theirs d))) (λ j. j)
        (first.either q)

    pub map_joined : (both : TrieMapValue Hash S) → Holds mine.1 both.1 × Holds yours.1 both.1
        → HoldsSame (at_keys at both) (join greater (state_with (at_keys at mine) own) (state_with (at_keys at yours) theirs)).at
    unfolding at_keys
    map_joined both h place d = all_by both.1 place.0 (finite.get mine.1 place.0) (finite.get yours.1 place.0) refl refl h.0 h.1 place.1 d
