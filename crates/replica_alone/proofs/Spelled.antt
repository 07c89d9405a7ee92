-- A message that has bytes is finite: a context has finitely many dots, and a store finitely many places.
use Rattle.std.proofs.Common.{◌≡◌, ◌⊎◌, inl, inr, ℕ, zero, suc, ◌<◌, ◌≤◌, List, [], ◌∷◌, ◌++◌, map, Bool, true, false, cond, Option, Some, None, refl, sym}
use Rattle.std.proofs.Common.{◌∙◌, subst, arith, leb, ◌||◌, eqb-true}
use Rattle.std.specs.Prelude.{Contains, unwrap_or}
use Rattle.std.specs.List.{filter}
use Rattle.std.specs.Map.{lookup}
use Rattle.std.specs.BTreeMap.{is_at}
use Rattle.std.specs.Ordering.{nat_cmp}
use Rattle.std.proofs.lemmas.Bool.{and_parts, cases_lt, leb-true}
use Rattle.std.proofs.lemmas.List.Elements.{Contains-append_left, Contains-append_right}
use Rattle.std.proofs.lemmas.Option.{same_Some}
use Rattle.dots.specs.Bytes.{bytes_cmp}
use Rattle.dots.specs.Dot.{DotValue}
use Rattle.dots.specs.declared.dot.Dot.{Dot}
use Rattle.causal_context.specs.Context.{ContextValue, known_up_to, in_cloud, has}
use Rattle.causal_context.proofs.Dots.{same_from_test}
use Rattle.causal_context.proofs.Vectors.{is_eq-nat_cmp}
use Rattle.causal_join.specs.OrMap.{ValuesValue, FieldsValue, OrMapStoreValue, OrMapValue, or_map_at, or_map_state}
use Rattle.dot_store.specs.Stores.{at_values, at_stores, held_by}
use Rattle.hash_path.proofs.Words.{tied_same}
use Rattle.op_model.specs.Operation as operation
use Rattle.op_model.specs.Place.{Place, place_of}
use Rattle.op_model.proofs.Dots.{in_has, from_has}
use Rattle.op_model.proofs.Members.{at_head, in_tail, at_same, in_map, in_filter, from_filter}
use Rattle.op_model.proofs.SameSets.{both_ways}
use Rattle.sync_model.proofs.Members.{In, Contains-In}
use Rattle.wire_form.specs.Message.{Delta, Hello, Opening, Ask, Page, Gone}
use Rattle.replica_model.proofs.Built.{some_passes}
use Rattle.replica_alone.specs.Finite.{KnowsFew, SpelledIsFinite}

-- ---- a test that passes at dots of some list alone

few_of : (known : DotValue → Bool) (dots : List Dot) → ((dot : Dot) → known dot ≡ true → Contains dots dot) → KnowsFew known
few_of known dots all = (
  filter known dots,
  λ dot.
      both_ways (known dot) (operation.has (filter known dots) dot)
      (λ e. in_has (filter known dots) dot (in_filter known dots dot (all dot e) e))
      (λ h. (from_filter known dots dot (from_has (filter known dots) dot h)).1),
)

-- ---- the dots of a context

up_to : ℕ → ℕ → List Dot
up_to name zero = []
up_to name (suc n) = record { name = name; number = suc n } ∷ up_to name n

in_up_to : (name n m : ℕ) → 1 ≤ m → m ≤ n → Contains (up_to name n) (record { name = name; number = m })
unfolding up_to
in_up_to name zero m low high = absurd (omega (arith, low, high))
in_up_to name (suc n) m low high = step (cases_lt m (suc n)) (in_up_to name n m low)
  where
    step : (m < suc n) ⊎ (suc n ≤ m) → (m ≤ n → Contains (up_to name n) (record { name = name; number = m }))
        → Contains (record { name = name; number = suc n } ∷ up_to name n) (record { name = name; number = m })
    step (inl less) further = in_tail _ (up_to name n) _ (further (omega (arith, less)))
    step (inr last) further =
        let same : suc n ≡ m = omega (arith, last, high) in
        at_same (record { name = name; number = suc n } ∷ up_to name n) _ _ (λ i. record { name = name; number = same i }) (at_head _ (up_to name n))

of_vector : List (ℕ × ℕ) → List Dot
of_vector [] = []
of_vector (e ∷ es) = up_to e.0 e.1 ++ of_vector es

in_vector : (vector : List (ℕ × ℕ)) (name m : ℕ) → 1 ≤ m → m ≤ known_up_to vector name → Contains (of_vector vector) (record { name = name; number = m })
unfolding of_vector
in_vector [] name m low high = absurd (omega (arith, low, high))
in_vector (e ∷ es) name m low high = step (is_at (nat_cmp name) e.0) refl high (in_vector es name m low)
  where
    step : (b : Bool) → is_at (nat_cmp name) e.0 ≡ b → m ≤ unwrap_or (cond b (Some e.1) (lookup (is_at (nat_cmp name)) es)) 0
        → (m ≤ known_up_to es name → Contains (of_vector es) (record { name = name; number = m }))
        → Contains (up_to e.0 e.1 ++ of_vector es) (record { name = name; number = m })
    step true is h further =
        let same : name ≡ e.0 = eqb-true name e.0 (sym (is_eq-nat_cmp name e.0) ∙ is) in
        Contains-append_left (up_to e.0 e.1) (of_vector es) (record { name = name; number = m })
        (subst (λ n. Contains (up_to n e.1) (record { name = name; number = m })) same (in_up_to name e.1 m low h))
    step false is h further = Contains-append_right (up_to e.0 e.1) (of_vector es) (record { name = name; number = m }) (further h)

in_the_cloud : (cloud : List DotValue) (dot : DotValue) → in_cloud cloud dot ≡ true → Contains cloud dot
in_the_cloud cloud dot e =
    let one = some_passes (Rattle.dots.specs.Dot.same_dot dot) cloud e in
    at_same cloud one.0 dot (sym (same_from_test dot one.0 one.2)) (Contains-In cloud one.0 one.1)

few_in_context : (c : ContextValue) → KnowsFew (has c)
unfolding has
few_in_context c = few_of (has c) (of_vector c.vector ++ c.cloud) all
  where
    either : (dot : Dot) → 1 ≤ dot.number → (a b : Bool) → leb dot.number (known_up_to c.vector dot.name) ≡ a → in_cloud c.cloud dot ≡ b → (a || b) ≡ true
        → Contains (of_vector c.vector ++ c.cloud) dot
    either dot low true b e f is =
        Contains-append_left (of_vector c.vector) c.cloud dot
        (in_vector c.vector dot.name dot.number low (leb-true dot.number (known_up_to c.vector dot.name) e))
    either dot low false true e f is = Contains-append_right (of_vector c.vector) c.cloud dot (in_the_cloud c.cloud dot f)
    either dot low false false e f is = absurd cc

    all : (dot : Dot) → has c dot ≡ true → Contains (of_vector c.vector ++ c.cloud) dot
    all dot e =
        let both = and_parts (leb 1 dot.number) (leb dot.number (known_up_to c.vector dot.name) || in_cloud c.cloud dot) e in
        either dot (leb-true 1 dot.number both.0) (leb dot.number (known_up_to c.vector dot.name)) (in_cloud c.cloud dot) refl refl both.1

-- ---- the places of a store

found_in : {K X : Type 0} (test : K → Bool) (es : List (K × X)) (x : X) → lookup test es ≡ Some x → (k : K) × In es (k, x) × (test k ≡ true)
found_in test [] x e = absurd cc
found_in test (e ∷ es) x is = step (test e.0) refl is (found_in test es x)
  where
    step : (b : Bool) → test e.0 ≡ b → cond b (Some e.1) (lookup test es) ≡ Some x → (lookup test es ≡ Some x → (k : _) × In es (k, x) × (test k ≡ true))
        → (k : _) × In (e ∷ es) (k, x) × (test k ≡ true)
    step true t s further = let value = same_Some e.1 x s in (e.0, inl (λ i. (e.0, value i)), t)
    step false t s further = let rest = further s in (rest.0, inr rest.1, rest.2)

places_in : OrMapStoreValue → List Place
places_in [] = []
places_in (e ∷ es) = map (λ f. place_of e.0 f.0) e.1 ++ places_in es

in_places : (es : OrMapStoreValue) (key field : List ℕ) (fs : FieldsValue) (vs : ValuesValue) → In es (key, fs) → In fs (field, vs)
    → Contains (places_in es) (place_of key field)
unfolding places_in
in_places [] key field fs vs h i = absurd h
in_places (e ∷ es) key field fs vs (inl here) i =
    Contains-append_left (map (λ (f : List ℕ × ValuesValue). place_of e.0 f.0) e.1) (places_in es) (place_of key field)
    (subst (λ (x : List ℕ × FieldsValue). Contains (map (λ (f : List ℕ × ValuesValue). place_of x.0 f.0) x.1) (place_of key field)) (sym here)
    (in_map (λ (f : List ℕ × ValuesValue). place_of key f.0) fs (field, vs) (Contains-In fs (field, vs) i)))
in_places (e ∷ es) key field fs vs (inr h) i =
    Contains-append_right (map (λ (f : List ℕ × ValuesValue). place_of e.0 f.0) e.1) (places_in es) (place_of key field) (in_places es key field fs vs h i)

at_places : (store : OrMapStoreValue) (place : Place) (dot : Dot) (value : List ℕ) → or_map_at store (place.key, (place.field, tt)) dot ≡ Some value
    → Contains (places_in store) place
unfolding at_stores
at_places store place dot value e = by_key (lookup (is_at (bytes_cmp place.key)) store) refl e
  where
    by_field : (fs : FieldsValue) → lookup (is_at (bytes_cmp place.key)) store ≡ Some fs → (y : Option ValuesValue)
        → lookup (is_at (bytes_cmp place.field)) fs ≡ y → held_by at_values y tt dot ≡ Some value → Contains (places_in store) place
    by_field fs is None t s = absurd cc
    by_field fs is (Some vs) t s =
        let k = found_in (is_at (bytes_cmp place.key)) store fs is in
        let f = found_in (is_at (bytes_cmp place.field)) fs vs t in
        let key : k.0 ≡ place.key = sym (tied_same place.key k.0 k.2) in
        let field : f.0 ≡ place.field = sym (tied_same place.field f.0 f.2) in
        at_same (places_in store) (place_of k.0 f.0) place (λ i. place_of (key i) (field i)) (in_places store k.0 f.0 fs vs k.1 f.1)

    by_key : (x : Option FieldsValue) → lookup (is_at (bytes_cmp place.key)) store ≡ x
        → held_by Rattle.causal_join.specs.OrMap.fields_at x (place.field, tt) dot ≡ Some value → Contains (places_in store) place
    by_key None t s = absurd cc
    by_key (Some fs) t s = by_field fs t (lookup (is_at (bytes_cmp place.field)) fs) refl s

-- ---- messages

pub spelled_finite : SpelledIsFinite
spelled_finite bytes (Delta d) is = record {
  places = places_in d.0;
  at = λ place dot value e. at_places d.0 place dot value e;
  dots = few_in_context d.1;
  inside = λ place dot some. is.lawful.inside (place.key, (place.field, tt)) dot some;
}
spelled_finite bytes (Hello s c) is = tt
spelled_finite bytes (Opening s c r) is = few_in_context c
spelled_finite bytes (Ask s p) is = tt
spelled_finite bytes (Page s p) is = tt
spelled_finite bytes (Gone s) is = tt
