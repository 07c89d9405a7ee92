-- What the definitions say, in words on the members of a set.
use Rattle.std.proofs.Common.{◌≡◌, ℕ, List, map, refl, sym, ap, ◌∙◌, inl, inr, Bool, true, false, ◌||◌}
use Rattle.std.specs.Prelude.{Contains, ◌↔◌, IsTrue, IsFalse}
use Rattle.std.proofs.lemmas.Bool.{false≢true, or_cases, or_left, or_right, cases_Bool}
use Rattle.dots.specs.declared.dot.Dot.{Dot}
use Rattle.op_model.specs.Operation.{Write, Operation, Wrote, Erased, writes, observed, over_of, ids, has, known, Tells}
use Rattle.op_model.specs.Place.{Place, place_of}
use Rattle.op_model.specs.Shown.{is_on, is_within, is_anywhere, shown, shown_where, shown_within, ascending, values, values_of_key, fields, keys, IsShown}
use Rattle.op_model.proofs.Dots.{has-append, in_has, from_has}
use Rattle.op_model.proofs.Members.{at_same, in_map, from_map}
use Rattle.op_model.proofs.SameSets.{in_writes, from_writes, in_observed, from_observed, from_shown, in_shown}
use Rattle.op_model.proofs.Ascending.{in_ascending, from_ascending}
use Rattle.op_model.proofs.Places.{on_own, on_place, within_own, within_key}

not_observed : (S : List Operation) (dot : Dot) → ((o : Operation) → Contains S o → IsFalse (has (over_of o) dot)) → has (observed S) dot ≡ false
not_observed S dot f =
    elim (cases_Bool (has (observed S) dot)) [
      | inl e ↦ let found = from_observed S dot e in absurd (false≢true (sym (f found.0 found.1) ∙ found.2))
      | inr e ↦ e
    ]

observed_not : (S : List Operation) (dot : Dot) → has (observed S) dot ≡ false → (o : Operation) → Contains S o → IsFalse (has (over_of o) dot)
observed_not S dot e o h =
    elim (cases_Bool (has (over_of o) dot)) [
      | inl f ↦ absurd (false≢true (sym e ∙ in_observed S o dot h f))
      | inr f ↦ f
    ]

-- the writes that pass a test and are shown are just those of the set that no operation of it had observed
shown_in_words : (S : List Operation) (test : Write → Bool) (w : Write) → Contains (shown_where S test) w → IsShown S w.place w
shown_in_words S test w h =
    let parts = from_shown S test w h in
    record { written = from_writes S w parts.0; there = refl; unobserved = observed_not S w.id parts.2 }

words_shown : (S : List Operation) (place : Place) (test : Write → Bool) (w : Write) → IsShown S place w → test w ≡ true → Contains (shown_where S test) w
words_shown S place test w s passes = in_shown S test w (in_writes S w s.written) passes (not_observed S w.id s.unobserved)

at_place : (S : List Operation) (place other : Place) (w : Write) → place ≡ other → IsShown S place w → IsShown S other w
at_place S place other w e s = record { written = s.written; there = s.there ∙ e; unobserved = s.unobserved }

-- a write shown within a key is shown at a field of it
within_in_words : (S : List Operation) (key : List ℕ) (w : Write) → Contains (shown_within S key) w → IsShown S (place_of key w.place.field) w
within_in_words S key w h =
    let e : w.place.key ≡ key = within_key key w (from_shown S (is_within key) w h).1 in
    at_place S w.place (place_of key w.place.field) w (λ i. place_of (e i) w.place.field) (shown_in_words S (is_within key) w h)

words_within : (S : List Operation) (key field : List ℕ) (w : Write) → IsShown S (place_of key field) w → Contains (shown_within S key) w
words_within S key field w s = words_shown S (place_of key field) (is_within key) w s (ap (λ k. is_within k w) (sym (ap (λ p. p.key) s.there)) ∙ within_own w)

pub shown-IsShown : (S : List Operation) (place : Place) (w : Write) → Contains (shown S place) w ↔ IsShown S place w
shown-IsShown S place w = (
  λ h. at_place S w.place place w (on_place place w (from_shown S (is_on place) w h).1) (shown_in_words S (is_on place) w h),
  λ s. words_shown S place (is_on place) w s (sym (ap (λ k. is_on k w) s.there) ∙ on_own w),
)

-- what a list of what writes say has in it
said : (S : List Operation) (test : Write → Bool) (of : Write → List ℕ) (x : List ℕ) → Contains (ascending (map of (shown_where S test))) x → (w : Write)
    × Contains (shown_where S test) w × (of w ≡ x)
said S test of x h = from_map of (shown_where S test) x (from_ascending (map of (shown_where S test)) x h)

is_said : (S : List Operation) (test : Write → Bool) (of : Write → List ℕ) (x : List ℕ) (w : Write) → Contains (shown_where S test) w → of w ≡ x
    → Contains (ascending (map of (shown_where S test))) x
is_said S test of x w h e = in_ascending (map of (shown_where S test)) x (at_same (map of (shown_where S test)) (of w) x e (in_map of (shown_where S test) w h))

pub values-IsShown : (S : List Operation) (place : Place) (value : List ℕ)
    → Contains (values S place) value ↔ ((w : Write) × IsShown S place w × (w.value ≡ value))
values-IsShown S place value = (
  λ h. let found = said S (is_on place) (λ w. w.value) value h in (found.0, (shown-IsShown S place found.0).0 found.1, found.2),
  λ (w, s, e). is_said S (is_on place) (λ v. v.value) value w ((shown-IsShown S place w).1 s) e,
)

pub values_of_key-IsShown : (S : List Operation) (key value : List ℕ)
    → Contains (values_of_key S key) value ↔ ((field : List ℕ) × Contains (values S (place_of key field)) value)
values_of_key-IsShown S key value = (
  λ h. let found = said S (is_within key) (λ w. w.value) value h in
      (found.0.place.field, (values-IsShown S (place_of key found.0.place.field) value).1 (found.0, within_in_words S key found.0 found.1, found.2)),
  λ (field, h). let found = (values-IsShown S (place_of key field) value).0 h in
      is_said S (is_within key) (λ v. v.value) value found.0 (words_within S key field found.0 found.1) found.2,
)

pub fields-IsShown : (S : List Operation) (key field : List ℕ) → Contains (fields S key) field ↔ ((w : Write) × IsShown S (place_of key field) w)
fields-IsShown S key field = (
  λ h. let found = said S (is_within key) (λ w. w.place.field) field h in
      (found.0, at_place S (place_of key found.0.place.field) (place_of key field) found.0 (ap (place_of key) found.2) (within_in_words S key found.0 found.1)),
  λ (w, s). is_said S (is_within key) (λ v. v.place.field) field w (words_within S key field w s) (ap (λ p. p.field) s.there),
)

pub keys-IsShown : (S : List Operation) (key : List ℕ) → Contains (keys S) key ↔ ((field : List ℕ) × Contains (fields S key) field)
keys-IsShown S key = (
  λ h. let found = said S is_anywhere (λ w. w.place.key) key h in (
    found.0.place.field,
    (fields-IsShown S key found.0.place.field).1 (
      found.0,
      at_place S found.0.place (place_of key found.0.place.field) found.0 (ap (λ k. place_of k found.0.place.field) found.2)
          (shown_in_words S is_anywhere found.0 found.1),
    ),
  ),
  λ (field, h). let found = (fields-IsShown S key field).0 h in
      is_said S is_anywhere (λ v. v.place.key) key found.0 (words_shown S (place_of key field) is_anywhere found.0 found.1 refl)
      (ap (λ p. p.key) found.1.there),
)

-- a dot is known exactly where an operation of the set wrote it or had observed it
tells_over : (o : Operation) (dot : Dot) → has (over_of o) dot ≡ true → Tells o dot
tells_over (Wrote w) dot h = inr h
tells_over (Erased over) dot h = h

told_known : (S : List Operation) (dot : Dot) (o : Operation) → Contains S o → Tells o dot → has (ids (writes S)) dot || has (observed S) dot ≡ true
told_known S dot (Wrote w) h (inl e) =
    or_left (has (ids (writes S)) dot) (has (observed S) dot)
    (in_has (ids (writes S)) dot (at_same (ids (writes S)) w.id dot e (in_map (λ v. v.id) (writes S) w (in_writes S w h))))
told_known S dot (Wrote w) h (inr e) = or_right (has (ids (writes S)) dot) (has (observed S) dot) (in_observed S (Wrote w) dot h e)
told_known S dot (Erased over) h e = or_right (has (ids (writes S)) dot) (has (observed S) dot) (in_observed S (Erased over) dot h e)

pub known-Tells : (S : List Operation) (dot : Dot) → IsTrue (has (known S) dot) ↔ ((o : Operation) × Contains S o × Tells o dot)
known-Tells S dot = (
  λ h. elim (or_cases (has (ids (writes S)) dot) (has (observed S) dot) (sym (has-append (ids (writes S)) (observed S) dot) ∙ h)) [
    | inl e ↦ let found = from_map (λ w. w.id) (writes S) dot (from_has (ids (writes S)) dot e) in (Wrote found.0, from_writes S found.0 found.1, inl found.2)
    | inr e ↦ let found = from_observed S dot e in (found.0, found.1, tells_over found.0 dot found.2)
  ],
  λ (o, h, t). has-append (ids (writes S)) (observed S) dot ∙ told_known S dot o h t,
)
