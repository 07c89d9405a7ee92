-- A delta that brings to a side what its join with another one holds.
use Rattle.std.proofs.Common.{◌≡◌, ℕ, List, Bool, true, false, cond, Option, Some, None, refl, sym, ap, subst, ◌∙◌, ⊎_elim}
use Rattle.std.specs.Prelude.{IsTrue, IsSome, IsNone, is_some, ◌||◌, ◌⊎◌, ◌↔◌, Result, Ok, Err, IfOk, OnOk}
use Rattle.std.specs.Ordering.{is_eq}
use Rattle.std.proofs.lemmas.Map.Lookups.{exact_bytes}
use Rattle.dots.specs.Bytes.{bytes_cmp}
use Rattle.dots.specs.Dot.{DotValue}
use Rattle.std.specs.FinMap as finite
use Rattle.dot_store.specs.Stores.{held_by}
use Rattle.trie_map.specs.Here.{IsJoinHere}
use Rattle.trie_map.specs.Keyed.{TrieMapValue, at_keys}
use Rattle.dot_store.specs.Store.{HoldsDot, HoldsSame, state_with}
use Rattle.op_model.specs.State.{State, joined, join, Same, IsInside}
use Rattle.live_map.specs.Bringing.{BringsAt, IsCopyAt, StaysAt}
use Rattle.live_map.specs.Closing.{ChangesOnlyAt}
use Rattle.live_map.specs.Index.{PlaceValue, has_key, IsIndexed, IsTouched}
use Rattle.live_map.proofs.Changing.{all_touched, left_alone, held_in}
use Rattle.live_map.proofs.Members.{equal}

-- a join that is joined in again changes nothing, where each dot that stood is known
again : {H : Type 0} (greater : H → H → H) → ((x y z : H) → greater (greater x y) z ≡ greater x (greater y z)) → ((x : H) → greater x x ≡ x)
    → (m y : Option H) (own theirs dots : Bool) → (IsSome m → IsTrue dots)
    → joined greater m own (joined greater m own y theirs) dots ≡ joined greater m own y theirs
again greater assoc idem (Some v) (Some w) own theirs dots stood = ap Some (sym (assoc v v w) ∙ ap (λ x. greater x w) (idem v))
again greater assoc idem (Some v) None own true dots stood = ap (λ b. cond b None (Some v)) (stood refl)
again greater assoc idem (Some v) None own false dots stood = ap Some (idem v)
again greater assoc idem None (Some w) true theirs dots stood = refl
again greater assoc idem None (Some w) false theirs dots stood = refl
again greater assoc idem None None own theirs dots stood = refl

module _ {P H : Type 0} (greater : H → H → H) (assoc : (x y z : H) → greater (greater x y) z ≡ greater x (greater y z)) (idem : (x : H) → greater x x ≡ x)
    (mine yours : List ℕ × P → DotValue → Option H) (own theirs : DotValue → Bool) (keys : List (List ℕ)) (places : List PlaceValue)
    (delta : State (List ℕ × P) H)
    (changes : ChangesOnlyAt greater mine own yours theirs keys) (inside : IsInside (state_with mine own)) (indexed : IsIndexed mine places)
    (brings : BringsAt greater mine own yours theirs keys delta) (alone : IsTouched places own delta.at delta.has keys) where
  holds_at : (q : List ℕ) (b : Bool) → has_key keys q ≡ b → (place : P) (d : DotValue)
      → joined greater (mine (q, place) d) (own d) (delta.at (q, place) d) (delta.has d) ≡ joined greater (mine (q, place) d) (own d)
      (yours (q, place) d) (theirs d)
  holds_at q true e place d = ap (λ x. joined greater (mine (q, place) d) (own d) x (delta.has d)) (brings.held q e place d)
      ∙ again greater assoc idem (mine (q, place) d) (yours (q, place) d) (own d) (theirs d) (delta.has d) (brings.stood q e place d)
  holds_at q false e place d =
      sym (left_alone mine delta.at delta.has keys (all_touched mine delta.at own delta.has places keys inside indexed alone) greater own q e place d)
      ∙ changes q e place d

  knows : (d : DotValue) (o t x : Bool) → own d ≡ o → theirs d ≡ t → delta.has d ≡ x → (o || x) ≡ (o || t)
  knows d true t x eo et ex = refl
  knows d false true true eo et ex = refl
  knows d false true false eo et ex = absurd (let new = brings.new d et eo in cc (new, ex))
  knows d false false true eo et ex =
      absurd (let known : IsTrue (false || theirs d) = subst (λ b. IsTrue (b || theirs d)) eo (brings.known d ex) in cc (known, et))
  knows d false false false eo et ex = refl

  pub brings_all : Same (join greater (state_with mine own) delta) (join greater (state_with mine own) (state_with yours theirs))
  brings_all = record {
    at = λ place d. holds_at place.0 (has_key keys place.0) refl place.1 d;
    has = λ d. knows d (own d) (theirs d) (delta.has d) refl refl refl;
  }

-- ---- copies, key by key
module _ {P H : Type 0} (map old new : List ℕ × P → DotValue → Option H) (key : List ℕ)
    (here : (place : P) (d : DotValue) → new (key, place) d ≡ map (key, place) d)
    (apart : (q : List ℕ) → is_eq (bytes_cmp key q) ≡ false → (place : P) (d : DotValue) → new (q, place) d ≡ old (q, place) d) where
  kept_by : (q : List ℕ) (b : Bool) → is_eq (bytes_cmp key q) ≡ b → ((place : P) (d : DotValue) → old (q, place) d ≡ map (q, place) d)
      → (place : P) (d : DotValue) → new (q, place) d ≡ map (q, place) d
  kept_by q true e was place d = subst (λ k. new (k, place) d ≡ map (k, place) d) (exact_bytes key q (equal (bytes_cmp key q) e)) (here place d)
  kept_by q false e was place d = apart q e place d ∙ was place d

  pub copied_kept : (q : List ℕ) → ((place : P) (d : DotValue) → old (q, place) d ≡ map (q, place) d) → (place : P) (d : DotValue)
      → new (q, place) d ≡ map (q, place) d
  copied_kept q was = kept_by q (is_eq (bytes_cmp key q)) refl was

  only_by : (q : List ℕ) (b : Bool) → is_eq (bytes_cmp key q) ≡ b → (place : P) (d : DotValue) → (IsSome (old (q, place) d) → IsSome (map (q, place) d))
      → IsSome (new (q, place) d) → IsSome (map (q, place) d)
  only_by q true e place d was h =
      ap is_some (sym (subst (λ k. new (k, place) d ≡ map (k, place) d) (exact_bytes key q (equal (bytes_cmp key q) e)) (here place d))) ∙ h
  only_by q false e place d was h = was (ap is_some (sym (apart q e place d)) ∙ h)

  pub copied_only : ((place : List ℕ × P) (d : DotValue) → IsSome (old place d) → IsSome (map place d)) → (place : List ℕ × P) (d : DotValue)
      → IsSome (new place d) → IsSome (map place d)
  copied_only was place d h = only_by place.0 (is_eq (bytes_cmp key place.0)) refl place.1 d (was place d) h

pub copy_inside : {P H : Type 0} (map copy : List ℕ × P → DotValue → Option H) (known : DotValue → Bool) (keys : List (List ℕ)) → IsCopyAt map keys copy
    → IsInside (state_with map known) → IsInside (state_with copy known)
copy_inside map copy known keys is inside place d h = inside place d (is.only place d h)

-- ---- the join of two copies brings what the join of the maps holds there
module _ {P H : Type 0} (greater : H → H → H) (mine yours : List ℕ × P → DotValue → Option H) (own theirs : DotValue → Bool) (keys : List (List ℕ))
    (before other : List ℕ × P → DotValue → Option H) (is_before : IsCopyAt mine keys before) (is_other : IsCopyAt yours keys other) where
  pub copies_bring : (delta : State (List ℕ × P) H) → HoldsSame delta.at (join greater (state_with before own) (state_with other theirs)).at
      → ((place : List ℕ × P) (d : DotValue) → IsSome (before place d) → IsTrue (delta.has d))
      → ((d : DotValue) → IsTrue (theirs d) → own d ≡ false → IsTrue (delta.has d)) → ((d : DotValue) → IsTrue (delta.has d) → IsTrue (own d || theirs d))
      → BringsAt greater mine own yours theirs keys delta
  copies_bring delta held stood new known = record {
    held = λ q h place d. held (q, place) d ∙ (λ i. joined greater (is_before.here q h place d i) (own d) (is_other.here q h place d i) (theirs d));
    stood = λ q h place d s. stood (q, place) d (ap is_some (is_before.here q h place d) ∙ s);
    new = new;
    known = known;
  }

-- ---- the dots of a delta
module _ {P H : Type 0} (greater : H → H → H) (mine yours both : P → DotValue → Option H) (own theirs dots : DotValue → Bool)
    (same : HoldsSame both (join greater (state_with mine own) (state_with yours theirs)).at)
    (is_mine : IsInside (state_with mine own)) (is_yours : IsInside (state_with yours theirs)) where
  or_first : (a b : Bool) → IsTrue a → IsTrue (a || b)
  or_first true b h = refl
  or_first false b h = absurd (cc h)

  or_second : (a b : Bool) → IsTrue b → IsTrue (a || b)
  or_second true b h = refl
  or_second false b h = h

  both_known : (place : P) (d : DotValue) → IsSome (both place d) → IsTrue (own d || theirs d)
  both_known place d h = held_in greater (mine place d) (own d) (yours place d) (theirs d) (IsTrue (own d || theirs d)) (ap is_some (sym (same place d)) ∙ h)
      (λ m. or_first (own d) (theirs d) (is_mine place d m)) (λ y free. or_second (own d) (theirs d) (is_yours place d y))

  pub dots_known : (d : DotValue) → HoldsDot mine d ⊎ (HoldsDot both d ⊎ IsTrue (theirs d)) → IsTrue (own d || theirs d)
  dots_known d from = ⊎_elim (λ (m : HoldsDot mine d). or_first (own d) (theirs d) (is_mine m.0 d m.1))
      (λ rest. ⊎_elim (λ (b : HoldsDot both d). both_known b.0 d b.1) (λ t. or_second (own d) (theirs d) t) rest) from

-- where it is not None just because of this, it is there
pub is_there : {T : Type 0} (o : Option T) {Q : Type 0} → IsNone o ↔ (Q → ⊥) → Q → IsSome o
is_there None none q = absurd (none.0 refl q)
is_there (Some x) none q = refl

-- what four clauses say of one result
pub all_of : {T E : Type 0} {A B C D Q : T → Type 0} (r : Result T E) → ((x : T) → A x → B x → C x → D x → Q x) → IfOk r A → IfOk r B → IfOk r C → IfOk r D
    → IfOk r Q
all_of (Ok x) f a b c d = f x a b c d
all_of (Err e) f a b c d = tt

pub on_ok_two : {T E : Type 0} {A B Q : Type 0} (r : Result T E) → (A → B → Q) → OnOk r A → OnOk r B → OnOk r Q
on_ok_two (Ok x) f a b = f a b
on_ok_two (Err e) f a b = tt

-- ---- keys at which nothing changes
pub stays_at : {S P H Hash : Type 0} (at : S → P → DotValue → Option H) (greater : H → H → H) (mine : TrieMapValue Hash S) (own : DotValue → Bool)
    (yours : List ℕ × P → DotValue → Option H) (theirs : DotValue → Bool) (key : List ℕ) (other : S) (made : Option S)
    → ((place : P) (d : DotValue) → yours (key, place) d ≡ at other place d) → IsJoinHere at greater (finite.get mine.1 key) own other theirs made
    → is_some made ≡ false → StaysAt greater (at_keys at mine) own yours theirs key
unfolding at_keys
stays_at at greater mine own yours theirs key other None holds is e place d =
    is place d ∙ ap (λ y. joined greater (held_by at (finite.get mine.1 key) place d) (own d) y (theirs d)) (sym (holds place d))
stays_at at greater mine own yours theirs key other (Some both) holds is e place d = absurd (cc e)

-- each key either changes, or stays
module _ {P H : Type 0} (greater : H → H → H) (mine yours : List ℕ × P → DotValue → Option H) (own theirs : DotValue → Bool)
    (keys changed : List (List ℕ)) (only : ChangesOnlyAt greater mine own yours theirs keys)
    (each : (q : List ℕ) → IsTrue (has_key keys q) → IsTrue (has_key changed q) ⊎ StaysAt greater mine own yours theirs q) where
  stays_by : (q : List ℕ) (b : Bool) → has_key keys q ≡ b → has_key changed q ≡ false → StaysAt greater mine own yours theirs q
  stays_by q true e apart = ⊎_elim (λ there. absurd (cc (there, apart))) (λ stays. stays) (each q e)
  stays_by q false e apart = only q e

  pub changes_fewer : ChangesOnlyAt greater mine own yours theirs changed
  changes_fewer q apart = stays_by q (has_key keys q) refl apart
