-- What a map from keys to stores holds, over its list of entries.
use Rattle.std.proofs.Common.{◌≡◌, ℕ, ◌<◌, Bool, true, false, cond, List, [], ◌∷◌, length, get_or, Option, Some, None, refl, sym, ap, ◌∙◌}
use Rattle.std.specs.Prelude.{Contains, IsSome, IfSome, is_some, MatchOption, Result, Ok, Err, OnOk, OnErr}
use Rattle.std.specs.Borrow.{Bor}
use Rattle.std.specs.Option.{option_copied}
use Rattle.std.specs.declared.cmp.Ordering.{Ordering}
use Rattle.std.specs.Cmp.{IsTotalOrder}
use Rattle.std.specs.List.{All}
use Rattle.std.specs.Map.{lookup, remove_entry, values_of}
use Rattle.std.proofs.lemmas.List.{get_or-map}
use Rattle.std.proofs.lemmas.List.Elements.{All-map, All-contains}
use Rattle.std.proofs.lemmas.Map.Entries.{length-values_of}
use Rattle.std.proofs.lemmas.Map.Made.{Contains-values_of}
use Rattle.std.specs.BTreeMap.{is_at, insert_entry}
use Rattle.std.proofs.lemmas.Cmp.{tied_itself}
use Rattle.std.proofs.lemmas.Map.Views.{All-values-insert_entry, All-map-remove_entry, IfSome-lookup_from_All}
use Rattle.dots.specs.Dot.{DotValue}
use Rattle.dot_store.specs.Store.{HasNothing, HoldsDot, HoldsSame}
use Rattle.dot_store.specs.Stores.{at_stores, held_by, joined_store, NoKeyIsEmpty}
use Rattle.ordered_list.proofs.Places.{Ascends, item_found, entry_found}

-- ---- a fact of each store of a map
module _ {S : Type 0} (Q : S → Type 0) where
  each_insert : {K : Type 0} (cmp : K → K → Ordering) (es : List (K × S)) (key : K) (store : S) → All Q (values_of es) → Q store
      → All Q (values_of (insert_entry cmp es key store))
  each_insert cmp es key store all here = All-values-insert_entry cmp key store Q es all here

  pub each_put_some : {K : Type 0} (cmp : K → K → Ordering) (es fs : List (K × S)) (key : K) (store : Option S) → All Q (values_of es) → IfSome store Q
      → MatchOption store (fs ≡ es) (λ s. fs ≡ insert_entry cmp es key s) → All Q (values_of fs)
  each_put_some cmp es fs key None all here is = rw is all
  each_put_some cmp es fs key (Some store) all here is = rw is (each_insert cmp es key store all here)

  pub each_put : {K : Type 0} (cmp : K → K → Ordering) (es fs : List (K × S)) (key : K) (store : S) → All Q (values_of es) → Q store
      → fs ≡ insert_entry cmp es key store → All Q (values_of fs)
  each_put cmp es fs key store all here is = rw is (each_insert cmp es key store all here)

  pub each_after_put : {K E : Type 0} (cmp : K → K → Ordering) (r : Result (Unit {0}) E) (es fs : List (K × S)) (key : K) (store : S)
      → All Q (values_of es) → Q store
      → OnOk r (fs ≡ insert_entry cmp es key store) → OnErr r (fs ≡ es) → All Q (values_of fs)
  each_after_put cmp (Ok u) es fs key store all here ok err = rw ok (each_insert cmp es key store all here)
  each_after_put cmp (Err e) es fs key store all here ok err = rw err all

  pub each_remove : {K : Type 0} (test : K → Bool) (es : List (K × S)) → All Q (values_of es) → All Q (values_of (remove_entry test es))
  each_remove test es all = All-map-remove_entry test (λ e. e.1) Q es all

  -- of the store of an entry
  pub each_item : {K : Type 0} (es : List (K × S)) (i : ℕ) (e : K × S) → All Q (values_of es) → i < length es → e ≡ get_or es i e → Q e.1
  each_item es i e all h is =
      let len = length-values_of es in
      let within : i < length (values_of es) = rw len h in
      let value : e.1 ≡ get_or (values_of es) i e.1 = ap (λ x. x.1) is ∙ sym (get_or-map (λ x. x.1) es i e e.1 h) in
      rw value (all i e.1 within)

  pub each_contained : {K : Type 0} (es : List (K × S)) → All Q (values_of es) → (key : K) (store : S) → Contains es (key, store) → Q store
  each_contained es all key store has = All-contains Q (values_of es) store all (Contains-values_of es key store has)

  pub each_all : {K : Type 0} (es : List (K × S)) → All (λ e. Q e.1) es → All Q (values_of es)
  each_all es all = All-map Q (λ e. e.1) es all

module _ {S P H : Type 0} (at : S → P → DotValue → Option H) where
  filled_by : (o : Option S) (s : S) → IfSome o (λ t. HasNothing (at t) → ⊥) → o ≡ Some s → HasNothing (at s) → ⊥
  filled_by None s h e = absurd (cc e)
  filled_by (Some t) s h e = let same : t ≡ s = cc e in rw (← same) h

  -- the store that a look-up finds is not empty
  pub filled_at : {K : Type 0} (test : K → Bool) (es : List (K × S)) (s : S) → NoKeyIsEmpty at es → lookup test es ≡ Some s → HasNothing (at s) → ⊥
  filled_at test es s filled e = filled_by (lookup test es) s (IfSome-lookup_from_All (λ t. HasNothing (at t) → ⊥) test es filled) e

  pub filled_found : {K : Type 0} (test : K → Bool) (es : List (K × S)) (r : Option (Bor S)) → NoKeyIsEmpty at es → option_copied r ≡ lookup test es
      → IfSome r (λ s. HasNothing (at s.now) → ⊥)
  filled_found test es None filled is = tt
  filled_found test es (Some s) filled is = filled_at test es s.now filled (sym is)

  -- ---- what is held, where it is known what a look-up finds
  pub held_at_some : (o : Option S) (s : S) (place : P) (d : DotValue) → o ≡ Some s → held_by at o place d ≡ at s place d
  held_at_some o s place d e = rw e refl

  pub store_from_held : (o : Option S) (place : P) (d : DotValue) → IsSome (held_by at o place d) → (s : S) × (o ≡ Some s)
  store_from_held None place d h = absurd (cc h)
  store_from_held (Some s) place d h = (s, refl)

  held_some : (o : Option S) (place : P) (d : DotValue) → IsSome (held_by at o place d) → (s : S) × (o ≡ Some s) × IsSome (at s place d)
  held_some None place d h = absurd (cc h)
  held_some (Some s) place d h = (s, refl, h)

  pub filled_all : {K : Type 0} (es : List (K × S)) → All (λ e. HasNothing (at e.1) → ⊥) es → NoKeyIsEmpty at es
  filled_all es all = each_all (λ s. HasNothing (at s) → ⊥) es all

  -- the join at stores that are what was found
  pub joined_store_along : (greater : H → H → H) (o o' p p' : Option S) (own theirs : DotValue → Bool) → o ≡ o' → p ≡ p'
      → HoldsSame (joined_store at greater o own p theirs) (joined_store at greater o' own p' theirs)
  joined_store_along greater o o' p p' own theirs e f place d = rw (e, f) refl

  pub held_along : (o o' p p' : Option S) → o ≡ o' → p ≡ p' → HoldsSame (held_by at o) (held_by at p) → HoldsSame (held_by at o') (held_by at p')
  held_along o o' p p' e f h = rw (← e, ← f) h

  -- copies that hold the same
  pub copied_by : (b : Bool) (s t : S) (o p : Option S) → HoldsSame (at t) (at s) → HoldsSame (held_by at o) (held_by at p)
      → HoldsSame (held_by at (cond b (Some t) o)) (held_by at (cond b (Some s) p))
  copied_by true s t o p here before = here
  copied_by false s t o p here before = before

  -- a copy of a store that is kept is not empty
  pub no_empty_copy : {K : Type 0} (es : List (K × S)) (i : ℕ) (e : K × S) (copy : S) → NoKeyIsEmpty at es → i < length es → e ≡ get_or es i e
      → HoldsSame (at copy) (at e.1) → HasNothing (at copy) → ⊥
  no_empty_copy es i e copy filled h is same nothing = each_item (λ s. HasNothing (at s) → ⊥) es i e filled h is
      (λ place d. sym (same place d) ∙ nothing place d)

  module _ {K : Type 0} (cmp : K → K → Ordering) (total : IsTotalOrder cmp) where
    pub nothing_from_no_key : (es : List (K × S)) → length es ≡ 0 → HasNothing (at_stores at cmp es)
    unfolding at_stores
    nothing_from_no_key [] e place d = refl
    nothing_from_no_key (x ∷ es) e place d = absurd (cc e)

    first_is_found : (x : K × S) (es : List (K × S)) → lookup (is_at (cmp x.0)) (x ∷ es) ≡ Some x.1
    first_is_found x es = rw (tied_itself total x.0) refl

    pub no_key_from_nothing : (es : List (K × S)) → NoKeyIsEmpty at es → HasNothing (at_stores at cmp es) → length es ≡ 0
    unfolding at_stores
    no_key_from_nothing [] filled h = refl
    no_key_from_nothing (x ∷ es) filled h =
        absurd (filled_at (is_at (cmp x.0)) (x ∷ es) x.1 filled (first_is_found x es)
        (λ place d. sym (held_at_some (lookup (is_at (cmp x.0)) (x ∷ es)) x.1 place d (first_is_found x es)) ∙ h (x.0, place) d))

    -- what holds of each store holds of the one in which something is held
    pub item_from_held : (Q : K × S → Type 0) (es : List (K × S)) → All Q es → (place : K × P) (d : DotValue) → IsSome (at_stores at cmp es place d)
        → (e : K × S) × Q e × IsSome (at e.1 place.1 d)
    unfolding at_stores
    item_from_held Q es all place d h =
        let there = held_some (lookup (is_at (cmp place.0)) es) place.1 d h in
        let found = entry_found Q (is_at (cmp place.0)) es there.0 all there.1 in
        ((found.0, there.0), found.2, there.2)

    -- and what an entry's store holds is held
    pub held_from_item : (es : List (K × S)) (i : ℕ) (e : K × S) → Ascends cmp es → i < length es → e ≡ get_or es i e → (place : P) (d : DotValue)
        → at_stores at cmp es (e.0, place) d ≡ at e.1 place d
    unfolding at_stores
    held_from_item es i e s h is place d = held_at_some (lookup (is_at (cmp e.0)) es) e.1 place d (item_found cmp total es i e s h is)

    pub holds_from_item : (es : List (K × S)) (i : ℕ) (e : K × S) → Ascends cmp es → i < length es → e ≡ get_or es i e → (d : DotValue) → HoldsDot (at e.1) d
        → HoldsDot (at_stores at cmp es) d
    unfolding at_stores
    holds_from_item es i e s h is d held = ((e.0, held.0), ap is_some (held_from_item es i e s h is held.0 d) ∙ held.1)

    absent_by : (o : Option S) (place : P) (d : DotValue) → ((s : S) → o ≡ Some s → at s place d ≡ None) → held_by at o place d ≡ None
    absent_by None place d h = refl
    absent_by (Some s) place d h = h s refl

    -- what no store holds is not held
    pub absent_from_items : (es : List (K × S)) (d : DotValue) → All (λ e. (place : P) → at e.1 place d ≡ None) es → (place : K × P)
        → at_stores at cmp es place d ≡ None
    unfolding at_stores
    absent_from_items es d all place =
        absent_by (lookup (is_at (cmp place.0)) es) place.1 d
        (λ s e. (entry_found (λ x. (p : P) → at x.1 p d ≡ None) (is_at (cmp place.0)) es s all e).2 place.1)
