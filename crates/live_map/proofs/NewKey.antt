-- The join of a delta that brings one dot to a key at which nothing stands: over plain variables.
use Rattle.std.proofs.Common.{◌≡◌, ◌<◌, ◌≤◌, ◌∙◌, ◌++◌, ℕ, zero, suc, List, [], ◌∷◌, Bool, true, false, Option, Some, None, length, get_or, refl, sym, ap, subst, arith}
use Rattle.std.specs.Prelude.{Contains, IsTrue, IsSome, is_some, ◌||◌}
use Rattle.std.specs.Cmp.{eq_by_cmp_equiv}
use Rattle.std.specs.Cmp.Lexicographic.{nat_list_cmp_total}
use Rattle.std.specs.FinMap as finite
use Rattle.std.proofs.lemmas.Map.Lookups.{exact_bytes}
use Rattle.dots.specs.Bytes.{bytes_cmp}
use Rattle.dots.specs.Dot.{DotValue}
use Rattle.causal_context.specs.Context.{ContextValue, has}
use Rattle.dot_store.specs.Store.{HoldsSame, state_with}
use Rattle.dot_store.specs.Stores.{at_stores}
use Rattle.op_model.specs.State.{joined, join, IsInside}
use Rattle.trie_map.specs.Keyed.{TrieMapValue, at_keys}
use Rattle.trie_map.specs.Here.{IsJoinHere, IsWritten}
use Rattle.trie_map.proofs.Here.{joins_some}
use Rattle.live_map.specs.Index.{PlaceValue, names, has_key, AreAllTouched, IsIndexed}
use Rattle.live_map.specs.OneKey.{HasNoOther, IsAtNewKey}
use Rattle.live_map.proofs.Changing.{held_in, indexed_join}
use Rattle.live_map.proofs.Members.{among_exact, has_last, one_among, or_second}
use Rattle.live_map.proofs.OneKey.{step_joined}

-- ---- a list of one entry
pub entry_alone : {K X : Type 0} (es : List (K × X)) (a b : K × X) → length es ≡ 1 → es ≡ ((get_or es 0 a).0, (get_or es 0 b).1) ∷ []
entry_alone [] a b n = absurd (omega (arith, n))
entry_alone (e ∷ []) a b n = refl
entry_alone (e ∷ x ∷ es) a b n = absurd (omega (arith, n))

at_place : {X : Type 0} (x z : X) (k : ℕ) → k < length (x ∷ []) → get_or (x ∷ []) k z ≡ z → x ≡ z
at_place x z zero l e = e
at_place x z (suc k) l e = absurd (omega (arith, l))

only_entry : {X : Type 0} (es : List X) (x z : X) → es ≡ x ∷ [] → Contains es z → x ≡ z
only_entry es x z is there = let here = subst (λ l. Contains l z) is there in at_place x z here.0 here.1 here.2

pub only_key : (key q : List ℕ) → IsTrue (has_key (key ∷ []) q) → q ≡ key
only_key key q h = one_among (key ∷ []) key q (omega arith) refl (among_exact bytes_cmp exact_bytes (key ∷ []) q h)

pub the_key : (key q : List ℕ) → q ≡ key → IsTrue (has_key (key ∷ []) q)
the_key key q is =
    subst (λ k. IsTrue (has_key (key ∷ []) k)) (sym is) (has_last (key ∷ []) 0 (Some key) key key refl refl ((eq_by_cmp_equiv nat_list_cmp_total).refl key))

-- what is held where nothing stands, and is not known, is the join with it
alone_joined : {H : Type 0} (greater : H → H → H) (v : Option H) (own theirs : Bool) → (IsSome v → own ≡ false) → v ≡ joined greater None own v theirs
alone_joined greater None own theirs fresh = refl
alone_joined greater (Some v) true theirs fresh = absurd (cc (fresh refl))
alone_joined greater (Some v) false theirs fresh = refl

none_joined : {S P H : Type 0} (at : S → P → DotValue → Option H) (greater : H → H → H) (o : Option S) (own : DotValue → Bool) (y : S) (theirs : DotValue → Bool)
    → o ≡ None → ((place : P) (d : DotValue) → IsSome (at y place d) → own d ≡ false) → IsJoinHere at greater o own y theirs (Some y)
none_joined at greater None own y theirs is fresh place d = alone_joined greater (at y place d) (own d) (theirs d) (fresh place d)
none_joined at greater (Some s) own y theirs is fresh place d = absurd (cc is)

or_first : (b c : Bool) → IsTrue b → IsTrue (b || c)
or_first true c h = refl
or_first false c h = absurd (cc h)

-- what stands in a join is known, where each side knows its own
pub inside_joined : {P H : Type 0} (greater : H → H → H) (mine yours both : P → DotValue → Option H) (own theirs new : DotValue → Bool)
    → HoldsSame both (join greater (state_with mine own) (state_with yours theirs)).at → IsInside (state_with mine own) → IsInside (state_with yours theirs)
    → ((d : DotValue) → new d ≡ own d || theirs d) → IsInside (state_with both new)
inside_joined greater mine yours both own theirs new same inside within knows place d h =
    held_in greater (mine place d) (own d) (yours place d) (theirs d) (IsTrue (new d)) (ap is_some (sym (same place d)) ∙ h)
    (λ m. knows d ∙ or_first (own d) (theirs d) (inside place d m)) (λ y fresh. knows d ∙ or_second (own d) (theirs d) (within place d y))

-- a delta that brings one dot to a key at which nothing stands, and what was written there
pub record BringsOne {S P H Hash : Type 0} (at : S → P → DotValue → Option H) (mine : TrieMapValue Hash S) (own : DotValue → Bool)
    (yours : List ℕ × P → DotValue → Option H) (theirs : DotValue → Bool) (key : List ℕ) (dot : DotValue) (new : TrieMapValue Hash S) : Type 0 where
  pub store : S
  pub holds : (place : P) (d : DotValue) → yours (key, place) d ≡ at store place d
  pub at_key : (q : List ℕ) (place : P) (d : DotValue) → IsSome (yours (q, place) d) → q ≡ key
  pub within : IsInside (state_with yours theirs)
  pub one : HasNoOther theirs dot
  pub fresh : own dot ≡ false
  pub nothing : finite.get mine.1 key ≡ None
  pub written : IsWritten at mine.1 new.1 key store

-- what a delta of one entry holds
pub held_alone : {S P H : Type 0} (at : S → P → DotValue → Option H) (yours : List ℕ × P → DotValue → Option H) (entries : List (List ℕ × S)) (key : List ℕ)
    (y : S) → entries ≡ (key, y) ∷ []
    → ((k : List ℕ) (s : S) → Contains entries (k, s) → (place : P) (d : DotValue) → yours (k, place) d ≡ at s place d)
    → (place : P) (d : DotValue) → yours (key, place) d ≡ at y place d
held_alone at yours entries key y alone held = held key y (subst (λ es. Contains es (key, y)) (sym alone) (0, omega arith, refl))

pub key_alone : {S P H : Type 0} (yours : List ℕ × P → DotValue → Option H) (entries : List (List ℕ × S)) (key : List ℕ) (y : S) → entries ≡ (key, y) ∷ []
    → ((k : List ℕ) (place : P) (d : DotValue) → IsSome (yours (k, place) d) → (s : S) × Contains entries (k, s))
    → (q : List ℕ) (place : P) (d : DotValue) → IsSome (yours (q, place) d) → q ≡ key
key_alone yours entries key y alone only q place d h =
    let found = only q place d h in sym (ap (λ (e : List ℕ × _). e.0) (only_entry entries (key, y) (q, found.0) alone found.1))

-- what stands at the end of a list of one
pub last_alone : {X : Type 0} (es before : List X) (x : X) → es ≡ before ++ x ∷ [] → length es ≡ 1 → es ≡ x ∷ []
last_alone es [] x is one = is
last_alone es (y ∷ before) x is one = absurd (one_more (before ++ x ∷ []) (none_before before x) (sym (ap length is) ∙ one))
  where
    none_before : {X : Type 0} (before : List X) (x : X) → 1 ≤ length (before ++ x ∷ [])
    none_before [] x = omega arith
    none_before (z ∷ before) x = omega arith

    one_more : {X : Type 0} (zs : List X) → 1 ≤ length zs → suc (length zs) ≡ 1 → ⊥
    one_more zs some is = omega (arith, some, is)

-- the entries of such a delta, where they are one, are put at their key
pub brings_one : {S P H Hash : Type 0} (at : S → P → DotValue → Option H) (mine : TrieMapValue Hash S) (own : ContextValue) (entries : List (List ℕ × S))
    (theirs : ContextValue) (dot : DotValue) (new : TrieMapValue Hash S) (stores es : List (List ℕ × S)) (key : List ℕ) (y : S)
    → IsAtNewKey mine own entries theirs dot → stores ≡ entries → es ≡ stores → es ≡ (key, y) ∷ []
    → ((k : List ℕ) (s : S) → Contains es (k, s) → (place : P) (d : DotValue) → at_stores at bytes_cmp stores (k, place) d ≡ at s place d)
    → ((k : List ℕ) (place : P) (d : DotValue) → IsSome (at_stores at bytes_cmp stores (k, place) d) → (s : S) × Contains es (k, s))
    → IsInside (state_with (at_stores at bytes_cmp entries) (has theirs)) → IsWritten at mine.1 new.1 key y
    → BringsOne at mine (has own) (at_stores at bytes_cmp entries) (has theirs) key dot new
brings_one at mine own entries theirs dot new stores es key y is_new of is alone held only within written =
    record {
      store = y;
      holds = λ place d. ap (λ l. at_stores at bytes_cmp l (key, place) d) (sym of) ∙ held_alone at (at_stores at bytes_cmp stores) es key y alone held place d;
      at_key = λ q place d h. key_alone (at_stores at bytes_cmp stores) es key y alone only q place d
          (ap (λ l. is_some (at_stores at bytes_cmp l (q, place) d)) of ∙ h);
      within = within;
      one = is_new.only;
      fresh = is_new.only_new.is_new.unknown;
      nothing = is_new.nothing key y (subst (λ l. Contains l (key, y)) (is ∙ of) (subst (λ l. Contains l (key, y)) (sym alone) (0, omega arith, refl)));
      written = written;
    }

-- ---- the delta
module _ {S P H Hash : Type 0} (at : S → P → DotValue → Option H) (greater : H → H → H) (mine : TrieMapValue Hash S) (own : DotValue → Bool)
    (yours : List ℕ × P → DotValue → Option H) (theirs : DotValue → Bool) (key : List ℕ) (dot : DotValue) (new : TrieMapValue Hash S)
    (brings : BringsOne at mine own yours theirs key dot new) where
  held_dot : (q : List ℕ) (place : P) (d : DotValue) → IsSome (yours (q, place) d) → d ≡ dot
  held_dot q place d h = brings.one d (brings.within (q, place) d h)

  new_here : (place : P) (d : DotValue) → IsSome (at brings.store place d) → own d ≡ false
  new_here place d h = ap own (held_dot key place d (ap is_some (brings.holds place d) ∙ h)) ∙ brings.fresh

  only_touched : IsInside (state_with (at_keys at mine) own) → AreAllTouched (at_keys at mine) yours theirs (key ∷ [])
  only_touched inside = record {
    own = λ q place d h. the_key key q (brings.at_key q place d h);
    known = λ q place d h k. absurd (cc (inside (q, place) d h, ap own (brings.one d k), brings.fresh));
  }

  pub new_key_joined : IsInside (state_with (at_keys at mine) own) → HoldsSame (at_keys at new) (join greater (state_with (at_keys at mine) own) (state_with yours theirs)).at
  new_key_joined inside =
      step_joined at greater mine own yours theirs (key ∷ []) key (only_touched inside) (only_key key) new
      (record {
        store = brings.store;
        holds = brings.holds;
        joins = joins_some at greater own brings.store theirs mine.1 new.1 key brings.store
            (none_joined at greater (finite.get mine.1 key) own brings.store theirs brings.nothing new_here) brings.written;
      })

  pub new_key_inside : IsInside (state_with (at_keys at mine) own) → (both : DotValue → Bool) → ((d : DotValue) → both d ≡ own d || theirs d)
      → IsInside (state_with (at_keys at new) both)
  new_key_inside inside both knows =
      inside_joined greater (at_keys at mine) yours (at_keys at new) own theirs both (new_key_joined inside) inside brings.within knows

  pub new_key_indexed : IsInside (state_with (at_keys at mine) own) → (old places : List PlaceValue) → IsIndexed (at_keys at mine) old
      → ((d : DotValue) (q : List ℕ) → IsTrue (names old d q) → IsTrue (names places d q)) → IsTrue (names places dot key) → IsIndexed (at_keys at new) places
  new_key_indexed inside old places had kept named =
      indexed_join greater (at_keys at mine) yours (at_keys at new) own theirs places (new_key_joined inside) (λ q place d h. kept d q (had q place d h))
      (λ q place d h free. subst (λ k. IsTrue (names places d k)) (sym (brings.at_key q place d h))
      (subst (λ x. IsTrue (names places x key)) (sym (held_dot q place d h)) named))
