-- States in which values stand at finitely many places, and which know finitely many dots: each has a map that stands for it, a next dot of each name, and
-- lists of
-- just the dots that stand at a place, at a key and anywhere. So is each state of which all others are made, and so is what a map holds.
use Rattle.std.proofs.Common.{◌≡◌, ◌⊎◌, inl, inr, ℕ, List, [], ◌∷◌, ◌++◌, map, Bool, true, false, cond, Option, Some, None, refl, sym, ap, ◌∙◌, subst, ◌&&◌}
use Rattle.std.proofs.Common.{◌||◌}
use Rattle.std.specs.Prelude.{Contains, ◌↔◌, IsTrue, IsSome, is_some, T}
use Rattle.std.specs.List.{AllByRecursion, filter, list_any}
use Rattle.std.specs.List.Sorted.{IsStrictlySortedBy}
use Rattle.std.specs.Map.{keys_of}
use Rattle.std.specs.Cmp.{IsTotalOrder}
use Rattle.std.specs.Cmp.Lexicographic.{nat_list_cmp_total}
use Rattle.std.specs.declared.cmp.Ordering.{Ordering}
use Rattle.std.specs.declared.cmp.Ordering.TheVariants.{Less, Equal, Greater}
use Rattle.std.specs.Ordering.{is_lt, eq_by_cmp}
use Rattle.std.specs.FinMap as finite
use Rattle.std.specs.FinMap.{get-empty, get-insert, get-entries, entries_sorted}
use Rattle.std.specs.FinMap.Entries.{find, is_sorted, below_all}
use Rattle.std.proofs.lemmas.Bool.{and_from, and_parts}
use Rattle.std.proofs.lemmas.List.Elements.{All-weaker, All-contains_itself, Contains-append_left, Contains-append_right}
use Rattle.std.proofs.lemmas.Option.{same_Some}
use Rattle.dots.specs.Bytes.{bytes_cmp}
use Rattle.dots.specs.declared.dot.Dot.{Dot}
use Rattle.causal_context.specs.Dots.{dot_cmp}
use Rattle.causal_context.proofs.Dots.{dot_cmp_total, is_eq-dot_cmp, same_dot-refl, same_from_test}
use Rattle.causal_join.specs.OrMap.{ValuesValue, FieldsValue, fields_at}
use Rattle.dot_store.specs.Store.{HasNothing}
use Rattle.dot_store.specs.Stores.{at_values, held_by}
use Rattle.dot_store.proofs.Stores.{filled_all}
use Rattle.hash_path.proofs.Words.{tied_same, same_tied}
use Rattle.op_model.specs.Made.{next, IsNext, IsPutAt, IsWithin, IsAnywhere}
use Rattle.op_model.specs.Meaning.{MapState, greater, state}
use Rattle.op_model.specs.Operation.{Operation, Write, has, known, writes}
use Rattle.op_model.specs.Place.{Place, place_of, same_bytes}
use Rattle.op_model.specs.Shown.{is_on, shown}
use Rattle.op_model.specs.State.{IsInside, joined, join}
use Rattle.op_model.proofs.Dots.{has-append, in_has, from_has}
use Rattle.op_model.proofs.Making.{next-IsNext, IsNext-same}
use Rattle.op_model.proofs.Members.{at_same, in_map, in_filter, from_filter}
use Rattle.op_model.proofs.Places.{same_bytes-true, same_bytes-self, on_place}
use Rattle.op_model.proofs.SameSets.{both_ways, from_shown}
use Rattle.op_model.proofs.Union.{found_under}
use Rattle.prefix_digest.specs.MapOf.{IsInOrder, IsMapOf}
use Rattle.sync_model.specs.Differ.{Held}
use Rattle.sync_model.specs.Closing.{held_state}
use Rattle.sync_model.specs.Opened.{held_in}
use Rattle.sync_model.proofs.Found.{find_in}
use Rattle.sync_model.proofs.Held.{fields_or_none, values_or_none, held_there}
use Rattle.sync_model.proofs.Keeping.{dot_tied}
use Rattle.sync_model.proofs.Lawful.{found}
use Rattle.sync_model.proofs.Members.{In, In-Contains, Contains-In}
use Rattle.replica_model.proofs.Built.{some_of, some_passes, any_passes}

-- ---- lists

-- the list, if there is something in it
if_any : {X : Type 0} → List X → Option (List X)
if_any [] = None
if_any (x ∷ xs) = Some (x ∷ xs)

any_first : {X : Type 0} (xs ys : List X) → if_any xs ≡ Some ys → (x : X) × (rest : List X) × (xs ≡ x ∷ rest) × (ys ≡ xs)
unfolding if_any
any_first [] ys e = absurd cc
any_first (x ∷ xs) ys e = (x, xs, refl, sym (same_Some (x ∷ xs) ys e))

pub dots_exact : (d e : Dot) → eq_by_cmp dot_cmp d e ≡ true → d ≡ e
dots_exact d e t = same_from_test d e (sym (is_eq-dot_cmp d e) ∙ t)

module _ {K X : Type 0} (R : K → K → Ordering) where
  below : (k : K) (es : List (K × X)) → T (below_all R k es) → AllByRecursion (λ y. R k y ≡ Less) (keys_of es)
  below k [] t = tt
  below k (e ∷ es) t = step (R k e.0) refl t (below k es)
    where
      step : (o : Ordering) → R k e.0 ≡ o → T (is_lt o && below_all R k es) → (T (below_all R k es) → AllByRecursion (λ y. R k y ≡ Less) (keys_of es))
          → AllByRecursion (λ y. R k y ≡ Less) (keys_of (e ∷ es))
      step Less is u further = (is, further u)
      step Equal is u further = absurd u
      step Greater is u further = absurd u

  rising : (es : List (K × X)) → T (is_sorted R es) → IsStrictlySortedBy R (keys_of es)
  unfolding IsStrictlySortedBy
  rising [] t = tt
  rising (e ∷ es) t = step (below_all R e.0 es) refl t (rising es)
    where
      step : (b : Bool) → below_all R e.0 es ≡ b → T (b && is_sorted R es) → (T (is_sorted R es) → IsStrictlySortedBy R (keys_of es))
          → IsStrictlySortedBy R (keys_of (e ∷ es))
      step true is u further = (below e.0 es (subst T (sym is) tt), further u)
      step false is u further = absurd u

-- ---- a function that gives something at listed keys alone, as a map

module _ {K X : Type 0} (R : K → K → Ordering) (total : IsTotalOrder R) (exact : (x y : K) → eq_by_cmp R x y ≡ true → x ≡ y)
    (same : (x : K) → eq_by_cmp R x x ≡ true) where
  with_value : K → Option X → finite.FinMap R X → finite.FinMap R X
  with_value k None m = m
  with_value k (Some x) m = finite.insert m k x

  or_else : Option X → Option X → Option X
  or_else None o = o
  or_else (Some x) o = Some x

  get-with_value : (k : K) (o : Option X) (m : finite.FinMap R X) (q : K) → finite.get (with_value k o m) q
      ≡ cond (eq_by_cmp R q k) (or_else o (finite.get m q)) (finite.get m q)
  unfolding with_value or_else
  get-with_value k None m q = by (eq_by_cmp R q k)
    where
      by : (b : Bool) → finite.get m q ≡ cond b (finite.get m q) (finite.get m q)
      by true = refl
      by false = refl
  get-with_value k (Some x) m q = get-insert total m k x q

  module _ (f : K → Option X) where
    graph : List K → finite.FinMap R X
    graph [] = finite.empty
    graph (k ∷ ks) = with_value k (f k) (graph ks)

    get-graph : (ks : List K) (q : K) → ((x : X) → f q ≡ Some x → In ks q) → finite.get (graph ks) q ≡ f q
    unfolding graph or_else
    get-graph [] q listed = get-empty R q ∙ sym (none (f q) refl)
      where
        none : (o : Option X) → f q ≡ o → o ≡ None
        none None e = refl
        none (Some x) e = absurd (listed x e)
    get-graph (k ∷ ks) q listed = get-with_value k (f k) (graph ks) q ∙ step (eq_by_cmp R q k) refl (get-graph ks q)
      where
        rest : eq_by_cmp R q k ≡ false → (x : X) → f q ≡ Some x → In ks q
        rest off x e = by (listed x e)
          where
            by : In (k ∷ ks) q → In ks q
            by (inl here) = absurd (let tied : eq_by_cmp R q k ≡ true = ap (eq_by_cmp R q) here ∙ same q in let both : true ≡ false = sym tied ∙ off in cc)
            by (inr h) = h

        here : (o : Option X) → f q ≡ o → (((x : X) → f q ≡ Some x → In ks q) → finite.get (graph ks) q ≡ f q) → or_else o (finite.get (graph ks) q) ≡ o
        here None e further = further (λ x g. absurd (let both : None ≡ Some x = sym e ∙ g in cc)) ∙ e
        here (Some x) e further = refl

        step : (b : Bool) → eq_by_cmp R q k ≡ b → (((x : X) → f q ≡ Some x → In ks q) → finite.get (graph ks) q ≡ f q)
            → cond b (or_else (f k) (finite.get (graph ks) q)) (finite.get (graph ks) q) ≡ f q
        step true e further = ap (λ y. or_else (f y) (finite.get (graph ks) q)) (sym (exact q k e)) ∙ here (f q) refl further
        step false e further = further (rest e)

  -- a map's first entry is there
  first_there : (m : finite.FinMap R X) (es : List (K × X)) → if_any (finite.entries m) ≡ Some es → (e : K × X) × (finite.get m e.0 ≡ Some e.1)
  first_there m es any =
      let first = any_first (finite.entries m) es any in
      (first.0, get-entries m first.0.0 ∙ ap (find R first.0.0) first.2 ∙ ap (λ b. cond b (Some first.0.1) (find R first.0.0 first.1)) (same first.0.0))

  sorted : (m : finite.FinMap R X) → IsStrictlySortedBy R (keys_of (finite.entries m))
  sorted m = rising R (finite.entries m) (entries_sorted m)

  is_there : (m : finite.FinMap R X) (k : K) (x : X) → Contains (finite.entries m) (k, x) → finite.get m k ≡ Some x
  is_there m k x h = get-entries m k ∙ found R exact same (finite.entries m) k x (sorted m) (In-Contains (finite.entries m) (k, x) h)

-- ---- finite states

-- what stands is at one of these places, and just these dots are known
pub record IsFinite (p : MapState) : Type 0 where
  pub places : List Place
  pub at : (place : Place) (dot : Dot) (v : List ℕ) → p.at place dot ≡ Some v → Contains places place
  pub dots : List Dot
  pub knows : (dot : Dot) → p.has dot ≡ has dots dot

-- the state of a set of operations is finite
pub state_finite : (S : List Operation) → IsFinite (state S)
state_finite S = record {
  places = map (λ w. w.place) (writes S);
  at = λ place dot v e.
      let under = found_under dot (shown S place) v e in
      let there = from_shown S (is_on place) under.0 under.1 in
      at_same (map (λ (w : Write). w.place) (writes S)) under.0.place place (on_place place under.0 there.1)
      (in_map (λ (w : Write). w.place) (writes S) under.0 there.0);
  dots = known S;
  knows = λ dot. refl;
}

-- what stands in a join stood on one side
if_held : (b : Bool) (x v : List ℕ) → cond b None (Some x) ≡ Some v → Some x ≡ Some v
if_held true x v e = absurd cc
if_held false x v e = e

one_of : (b : Bool) (x y v : List ℕ) → Some (cond b x y) ≡ Some v → (Some x ≡ Some v) ⊎ (Some y ≡ Some v)
one_of true x y v e = inl e
one_of false x y v e = inr e

pub from_either : (a : Option (List ℕ)) (s : Bool) (b : Option (List ℕ)) (t : Bool) (v : List ℕ) → joined greater a s b t ≡ Some v → (a ≡ Some v) ⊎ (b ≡ Some v)
from_either (Some x) s (Some y) t v e = one_of (is_lt (bytes_cmp y x)) x y v e
from_either (Some x) s None t v e = inl (if_held t x v e)
from_either None s (Some y) t v e = inr (if_held s y v e)
from_either None s None t v e = absurd cc

-- so the join of two finite states is finite
pub join_finite : (p q : MapState) → IsFinite p → IsFinite q → IsFinite (join greater p q)
join_finite p q f g = record {
  places = f.places ++ g.places;
  at = λ place dot v e. by place dot (from_either (p.at place dot) (p.has dot) (q.at place dot) (q.has dot) v e);
  dots = f.dots ++ g.dots;
  knows = λ dot. (λ i. f.knows dot i || g.knows dot i) ∙ sym (has-append f.dots g.dots dot);
}
  where
    by : (place : Place) (dot : Dot) {v : List ℕ} → (p.at place dot ≡ Some v) ⊎ (q.at place dot ≡ Some v) → Contains (f.places ++ g.places) place
    by place dot (inl e) = Contains-append_left f.places g.places place (f.at place dot _ e)
    by place dot (inr e) = Contains-append_right f.places g.places place (g.at place dot _ e)

-- and so is what a map holds, where just these dots are known
field_places : List ℕ → FieldsValue → List Place
field_places key fs = map (λ f. place_of key f.0) fs

map_places : List (List ℕ × FieldsValue) → List Place
map_places [] = []
map_places (e ∷ es) = field_places e.0 e.1 ++ map_places es

in_places : (es : List (List ℕ × FieldsValue)) (key field : List ℕ) (fs : FieldsValue) (vs : ValuesValue) → In es (key, fs) → In fs (field, vs)
    → Contains (map_places es) (place_of key field)
unfolding map_places field_places
in_places [] key field fs vs h i = absurd h
in_places (e ∷ es) key field fs vs (inl here) i =
    Contains-append_left (field_places e.0 e.1) (map_places es) (place_of key field)
    (subst (λ (x : List ℕ × FieldsValue). Contains (field_places x.0 x.1) (place_of key field)) (sym here)
    (in_map (λ (f : List ℕ × ValuesValue). place_of key f.0) fs (field, vs) (Contains-In fs (field, vs) i)))
in_places (e ∷ es) key field fs vs (inr h) i = Contains-append_right (field_places e.0 e.1) (map_places es) (place_of key field)
    (in_places es key field fs vs h i)

pub held_finite : (m : Held) (c : Dot → Bool) (ds : List Dot) → ((dot : Dot) → c dot ≡ has ds dot) → IsFinite (held_state m c)
held_finite m c ds knows = record {
  places = map_places (finite.entries m);
  at = λ place dot v e. by_key place dot v (finite.get m place.key) refl (sym (held_there (finite.get m place.key) place.field dot) ∙ e);
  dots = ds;
  knows = knows;
}
  where
    by_field : (place : Place) (dot : Dot) (v : List ℕ) (fs : FieldsValue) → In (finite.entries m) (place.key, fs) → (y : Option ValuesValue)
        → find bytes_cmp place.field fs ≡ y
        → find dot_cmp dot (values_or_none y) ≡ Some v → Contains (map_places (finite.entries m)) place
    by_field place dot v fs h None u r = absurd cc
    by_field place dot v fs h (Some vs) u r = in_places (finite.entries m) place.key place.field fs vs h (find_in place.field fs vs u)

    by_key : (place : Place) (dot : Dot) (v : List ℕ) (x : Option FieldsValue) → finite.get m place.key ≡ x
        → find dot_cmp dot (values_or_none (find bytes_cmp place.field (fields_or_none x))) ≡ Some v
        → Contains (map_places (finite.entries m)) place
    by_key place dot v None t s = absurd cc
    by_key place dot v (Some fs) t s = by_field place dot v fs (find_in place.key (finite.entries m) fs (sym (get-entries m place.key) ∙ t))
        (find bytes_cmp place.field fs) refl s

-- ---- the map of a finite state

any_fields : (es : FieldsValue) → fields_or_none (if_any es) ≡ es
unfolding if_any
any_fields [] = refl
any_fields (e ∷ es) = refl

any_values : (vs : ValuesValue) → values_or_none (if_any vs) ≡ vs
unfolding if_any
any_values [] = refl
any_values (v ∷ vs) = refl

some_value : (v : Dot × List ℕ) (vs : ValuesValue) → HasNothing (at_values (v ∷ vs)) → ⊥
unfolding at_values
some_value v vs nothing = let there : Some v.1 ≡ None = ap (λ b. cond b (Some v.1) (at_values vs tt v.0)) (sym (same_dot-refl v.0)) ∙ nothing tt v.0 in cc

module _ (p : MapState) (is : IsFinite p) (inside : IsInside p) where
  bytes_same : (x : List ℕ) → eq_by_cmp bytes_cmp x x ≡ true
  bytes_same x = same_tied x x refl

  values : Place → finite.FinMap dot_cmp (List ℕ)
  values place = graph dot_cmp dot_cmp_total dots_exact dot_tied (p.at place) is.dots

  values_at : (place : Place) (dot : Dot) → finite.get (values place) dot ≡ p.at place dot
  unfolding values
  values_at place dot =
      get-graph dot_cmp dot_cmp_total dots_exact dot_tied (p.at place) is.dots dot
      (λ v e. In-Contains is.dots dot (from_has is.dots dot (sym (is.knows dot) ∙ inside place dot (ap is_some e))))

  -- where a place has a value, it is one of them
  value_there : (place : Place) (vs : ValuesValue) → if_any (finite.entries (values place)) ≡ Some vs → (dot : Dot) × (v : List ℕ) × (p.at place dot ≡ Some v)
  value_there place vs e = let first = first_there dot_cmp dot_cmp_total dots_exact dot_tied (values place) vs e in
      (first.0.0, first.0.1, sym (values_at place first.0.0) ∙ first.1)

  at_field : List ℕ → List ℕ → Option ValuesValue
  at_field key field = if_any (finite.entries (values (place_of key field)))

  fields : List ℕ → finite.FinMap bytes_cmp ValuesValue
  fields key = graph bytes_cmp nat_list_cmp_total tied_same bytes_same (at_field key) (map (λ place. place.field) is.places)

  fields_of : (key field : List ℕ) → finite.get (fields key) field ≡ at_field key field
  unfolding fields at_field
  fields_of key field = get-graph bytes_cmp nat_list_cmp_total tied_same bytes_same (at_field key) (map (λ place. place.field) is.places) field
      (λ vs e. by (value_there (place_of key field) vs e))
    where
      by : (dot : Dot) × (v : List ℕ) × (p.at (place_of key field) dot ≡ Some v) → In (map (λ (place : Place). place.field) is.places) field
      by (dot, v, e) = In-Contains (map (λ (place : Place). place.field) is.places) field
          (in_map (λ (place : Place). place.field) is.places (place_of key field) (is.at (place_of key field) dot v e))

  field_there : (key : List ℕ) (fs : FieldsValue) → if_any (finite.entries (fields key)) ≡ Some fs → (field : List ℕ) × (dot : Dot) × (v : List ℕ)
      × (p.at (place_of key field) dot ≡ Some v)
  unfolding at_field
  field_there key fs e =
      let first = first_there bytes_cmp nat_list_cmp_total tied_same bytes_same (fields key) fs e in
      let value = value_there (place_of key first.0.0) first.0.1 (sym (fields_of key first.0.0) ∙ first.1) in
      (first.0.0, value.0, value.1, value.2)

  at_key : List ℕ → Option FieldsValue
  at_key key = if_any (finite.entries (fields key))

  pub finite_map : Held
  finite_map = graph bytes_cmp nat_list_cmp_total tied_same bytes_same at_key (map (λ place. place.key) is.places)

  keys_of_map : (key : List ℕ) → finite.get finite_map key ≡ at_key key
  unfolding finite_map at_key
  keys_of_map key = get-graph bytes_cmp nat_list_cmp_total tied_same bytes_same at_key (map (λ place. place.key) is.places) key
      (λ fs e. by (field_there key fs e))
    where
      by : (field : List ℕ) × (dot : Dot) × (v : List ℕ) × (p.at (place_of key field) dot ≡ Some v) → In (map (λ (place : Place). place.key) is.places) key
      by (field, dot, v, e) = In-Contains (map (λ (place : Place). place.key) is.places) key
          (in_map (λ (place : Place). place.key) is.places (place_of key field) (is.at (place_of key field) dot v e))

  held_at : (place : Place) (dot : Dot) → held_in (finite.get finite_map place.key) place.field dot ≡ p.at place dot
  unfolding at_key at_field
  held_at place dot =
      held_there (finite.get finite_map place.key) place.field dot
      ∙ ap (λ o. find dot_cmp dot (values_or_none (find bytes_cmp place.field (fields_or_none o)))) (keys_of_map place.key)
      ∙ ap (λ es. find dot_cmp dot (values_or_none (find bytes_cmp place.field es))) (any_fields (finite.entries (fields place.key)))
      ∙ ap (λ o. find dot_cmp dot (values_or_none o)) (sym (get-entries (fields place.key) place.field) ∙ fields_of place.key place.field)
      ∙ ap (find dot_cmp dot) (any_values (finite.entries (values place)))
      ∙ sym (get-entries (values place) dot)
      ∙ values_at place dot

  in_order : (key : List ℕ) → IsInOrder (finite.entries (fields key))
  unfolding at_field
  in_order key = record {
    ordered = sorted bytes_cmp nat_list_cmp_total tied_same bytes_same (fields key);
    filled = filled_all at_values (finite.entries (fields key))
        (All-weaker (Contains (finite.entries (fields key))) (λ e. HasNothing (at_values e.1) → ⊥) (λ e h. filled e.0 e.1 (there e.0 e.1 h))
        (finite.entries (fields key)) (All-contains_itself (finite.entries (fields key))));
    each = λ field vs h. each field vs (there field vs h);
  }
    where
      there : (field : List ℕ) (vs : ValuesValue) → Contains (finite.entries (fields key)) (field, vs) → at_field key field ≡ Some vs
      there field vs h = sym (fields_of key field) ∙ is_there bytes_cmp nat_list_cmp_total tied_same bytes_same (fields key) field vs h

      filled : (field : List ℕ) (vs : ValuesValue) → at_field key field ≡ Some vs → HasNothing (at_values vs) → ⊥
      filled field vs e nothing =
          let first = any_first (finite.entries (values (place_of key field))) vs e in
          some_value first.0 first.1 (subst (λ l. HasNothing (at_values l)) (first.3 ∙ first.2) nothing)

      each : (field : List ℕ) (vs : ValuesValue) → at_field key field ≡ Some vs → IsStrictlySortedBy dot_cmp (keys_of vs)
      each field vs e =
          let first = any_first (finite.entries (values (place_of key field))) vs e in
          subst (λ l. IsStrictlySortedBy dot_cmp (keys_of l)) (sym first.3) (sorted dot_cmp dot_cmp_total dots_exact dot_tied (values (place_of key field)))

  pub map_stands : IsMapOf finite_map p
  unfolding at_key
  map_stands = record {
    at = held_at;
    filled = λ key held e nothing.
        let there = field_there key held (sym (keys_of_map key) ∙ e) in
        let none : Some there.2 ≡ None = sym there.3 ∙ sym (held_at (place_of key there.0) there.1) ∙ ap (λ o. held_by fields_at o (there.0, tt) there.1) e
        ∙ nothing (there.0, tt) there.1 in
        cc;
    ordered = λ key held e. subst IsInOrder (sym (any_first (finite.entries (fields key)) held (sym (keys_of_map key) ∙ e)).3) (in_order key);
  }

  -- ---- the dots of a finite state

  next_there : (name : ℕ) → IsNext name p.has (next name is.dots)
  next_there name = IsNext-same name (has is.dots) p.has (next name is.dots) (λ dot. sym (is.knows dot)) (next-IsNext name is.dots)

  -- of the dots at a place, of those at a key, and of all that stand somewhere, there is a list
  known_at : (place : Place) (dot : Dot) → IsSome (p.at place dot) → has is.dots dot ≡ true
  known_at place dot some = sym (is.knows dot) ∙ inside place dot some

  listed_at : (place : Place) (dot : Dot) → IsSome (p.at place dot) → In is.places place
  listed_at place dot some = let there = some_of (p.at place dot) some in In-Contains is.places place (is.at place dot there.0 there.1)

  passing : (test : Dot → Bool) (P : Dot → Type 0) → ((dot : Dot) → test dot ≡ true → P dot)
      → ((dot : Dot) → P dot → (test dot ≡ true) × (has is.dots dot ≡ true))
      → (dot : Dot) → IsTrue (has (filter test is.dots) dot) ↔ P dot
  passing test P means back dot = (
    λ h. means dot (from_filter test is.dots dot (from_has (filter test is.dots) dot h)).1,
    λ h. in_has (filter test is.dots) dot (in_filter test is.dots dot (from_has is.dots dot (back dot h).1) (back dot h).0),
  )

  pub dots_at : Place → List Dot
  dots_at place = filter (λ dot. is_some (p.at place dot)) is.dots

  pub dots_at_place : (place : Place) (dot : Dot) → IsTrue (has (dots_at place) dot) ↔ IsSome (p.at place dot)
  unfolding dots_at
  dots_at_place place = passing (λ dot. is_some (p.at place dot)) (λ dot. IsSome (p.at place dot)) (λ dot e. e) (λ dot e. (e, known_at place dot e))

  is_within : List ℕ → Dot → Place → Bool
  is_within key dot place = same_bytes place.key key && is_some (p.at place dot)

  pub dots_within : List ℕ → List Dot
  dots_within key = filter (λ dot. list_any (is_within key dot) is.places) is.dots

  pub dots_at_key : (key : List ℕ) (dot : Dot) → IsTrue (has (dots_within key) dot) ↔ IsWithin p key dot
  unfolding dots_within is_within
  dots_at_key key = passing (λ dot. list_any (is_within key dot) is.places) (IsWithin p key) means back
    where
      means : (dot : Dot) → list_any (is_within key dot) is.places ≡ true → IsWithin p key dot
      means dot e =
          let one = some_passes (is_within key dot) is.places e in
          let both = and_parts (same_bytes one.0.key key) (is_some (p.at one.0 dot)) one.2 in
          (one.0.field, ap (λ k. is_some (p.at (place_of k one.0.field) dot)) (sym (same_bytes-true one.0.key key both.0)) ∙ both.1)

      back : (dot : Dot) → IsWithin p key dot → (list_any (is_within key dot) is.places ≡ true) × (has is.dots dot ≡ true)
      back dot (field, some) =
          let place = place_of key field in (
            any_passes (is_within key dot) is.places place (listed_at place dot some)
                (and_from (same_bytes key key) (is_some (p.at place dot)) (same_bytes-self key) some),
            known_at place dot some,
          )

  pub all_dots : List Dot
  all_dots = filter (λ dot. list_any (λ place. is_some (p.at place dot)) is.places) is.dots

  pub dots_anywhere : (dot : Dot) → IsTrue (has all_dots dot) ↔ IsAnywhere p dot
  unfolding all_dots
  dots_anywhere = passing (λ dot. list_any (λ place. is_some (p.at place dot)) is.places) (IsAnywhere p) means back
    where
      means : (dot : Dot) → list_any (λ place. is_some (p.at place dot)) is.places ≡ true → IsAnywhere p dot
      means dot e = let one = some_passes (λ place. is_some (p.at place dot)) is.places e in (one.0, one.2)

      back : (dot : Dot) → IsAnywhere p dot → (list_any (λ place. is_some (p.at place dot)) is.places ≡ true) × (has is.dots dot ≡ true)
      back dot (place, some) = (any_passes (λ place. is_some (p.at place dot)) is.places place (listed_at place dot some) some, known_at place dot some)

  -- so there is a put at each place
  pub put_there : (name : ℕ) (place : Place) (value : List ℕ) → IsPutAt p name place value
      (record { id = next name is.dots; place = place; value = value; over = dots_at place })
  put_there name place value = record {
    id = next_there name;
    same_place = refl;
    same_value = refl;
    over = λ dot. both_ways (has (dots_at place) dot) (is_some (p.at place dot)) (dots_at_place place dot).0 (dots_at_place place dot).1;
  }
