-- The map that stands for a state: there is one at most, and for the state of a set of operations it is the map of these.
use Rattle.std.proofs.Common.{◌≡◌, ℕ, List, [], ◌∷◌, map, Option, Some, None, Bool, true, false, cond, refl, sym, ap, ◌∙◌, subst, inl, inr}
use Rattle.std.specs.Prelude.{Contains, IsSome, is_some, T, ◌&&◌}
use Rattle.std.specs.declared.cmp.Ordering.{Ordering}
use Rattle.std.specs.declared.cmp.Ordering.TheVariants.{Less, Equal, Greater}
use Rattle.std.specs.List.{AllByRecursion}
use Rattle.std.specs.List.Sorted.{IsStrictlySortedBy}
use Rattle.std.specs.Map.{lookup, keys_of}
use Rattle.std.specs.BTreeMap.{is_at}
use Rattle.std.specs.Ordering.{eq_by_cmp, is_eq, is_lt}
use Rattle.std.specs.Cmp.{IsTotalOrder}
use Rattle.std.specs.Cmp.Lexicographic.{nat_list_cmp_total}
use Rattle.std.specs.FinMap as finite
use Rattle.std.specs.FinMap.{get-entries, get-from_entries, entries_sorted, same_map}
use Rattle.std.specs.FinMap.Entries.{find, is_sorted, below_all}
use Rattle.std.proofs.lemmas.Bool.{false≢true}
use Rattle.std.proofs.lemmas.Cmp.{tied_itself}
use Rattle.std.proofs.lemmas.Option.{none-some}
use Rattle.std.proofs.lemmas.List.Elements.{All-weaker, All-contains_itself}
use Rattle.std.proofs.lemmas.Map.Views.{Contains-from_lookup}
use Rattle.causal_context.specs.Dots.{dot_cmp}
use Rattle.causal_context.proofs.Dots.{dot_cmp_total, dot_exact, lookup-dot_cmp}
use Rattle.causal_context.proofs.Entries.{entries_from_lookup}
use Rattle.causal_join.specs.OrMap.{ValuesValue, FieldsValue, fields_at}
use Rattle.dot_store.specs.Store.{HasNothing}
use Rattle.dot_store.specs.Stores.{at_values, at_stores, held_by}
use Rattle.dot_store.proofs.Stores.{filled_at, filled_all}
use Rattle.dots.specs.Bytes.{bytes_cmp}
use Rattle.dots.specs.declared.dot.Dot.{Dot}
use Rattle.op_model.specs.Meaning.{MapState, state, value_under}
use Rattle.op_model.specs.Operation.{Write, Operation, NoReuse, IsSameSet}
use Rattle.op_model.specs.Place.{Place, place_of}
use Rattle.op_model.specs.State.{Same}
use Rattle.op_model.specs.Shown.{is_on, shown, shown_within, fields, keys, IsAscending}
use Rattle.op_model.proofs.Ascending.{head_below, tail_ascends, ascending-ascends}
use Rattle.op_model.proofs.Fresh.{NoReuse-part}
use Rattle.op_model.proofs.Greater.{bytes_exact}
use Rattle.op_model.proofs.Members.{nothing_in, at_head, in_tail, head_or_tail, at_same, in_map, from_map}
use Rattle.op_model.proofs.Places.{same_bytes-true}
use Rattle.op_model.proofs.SameSets.{from_shown, state-same}
use Rattle.op_model.proofs.Union.{found_under, stands_under}
use Rattle.op_model.proofs.Words.{shown-IsShown, fields-IsShown, keys-IsShown}
use Rattle.prefix_digest.specs.MapOf.{values_by_dot, fields_by_dot, map_of, IsInOrder, IsMapOf}

-- ---- a state has one map at most

values_one : (v w : ValuesValue) → IsStrictlySortedBy dot_cmp (keys_of v) → IsStrictlySortedBy dot_cmp (keys_of w)
    → ((dot : Dot) → at_values v tt dot ≡ at_values w tt dot) → v ≡ w
unfolding at_values
values_one v w first second same = entries_from_lookup dot_cmp_total dot_exact v w first second
    (λ dot. lookup-dot_cmp dot v ∙ same dot ∙ sym (lookup-dot_cmp dot w))

fields_one : (f g : FieldsValue) → IsInOrder f → IsInOrder g
    → ((field : List ℕ) (dot : Dot) → fields_at f (field, tt) dot ≡ fields_at g (field, tt) dot) → f ≡ g
unfolding at_stores
fields_one f g first second same =
    entries_from_lookup nat_list_cmp_total bytes_exact f g first.ordered second.ordered
    (λ field. by field (lookup (is_at (bytes_cmp field)) f) (lookup (is_at (bytes_cmp field)) g) refl refl)
  where
    held : (field : List ℕ) (a b : Option ValuesValue) → lookup (is_at (bytes_cmp field)) f ≡ a → lookup (is_at (bytes_cmp field)) g ≡ b → (dot : Dot)
        → held_by at_values a tt dot ≡ held_by at_values b tt dot
    held field a b is other dot = ap (λ o. held_by at_values o tt dot) (sym is) ∙ same field dot ∙ ap (λ o. held_by at_values o tt dot) other

    by : (field : List ℕ) (a b : Option ValuesValue) → lookup (is_at (bytes_cmp field)) f ≡ a → lookup (is_at (bytes_cmp field)) g ≡ b → a ≡ b
    by field None None is other = refl
    by field None (Some w) is other =
        absurd (filled_at at_values (is_at (bytes_cmp field)) g w second.filled other (λ place dot. sym (held field None (Some w) is other dot)))
    by field (Some v) None is other =
        absurd (filled_at at_values (is_at (bytes_cmp field)) f v first.filled is (λ place dot. held field (Some v) None is other dot))
    by field (Some v) (Some w) is other =
        ap Some (values_one v w (first.each field v (Contains-from_lookup same_bytes-true field v f is))
        (second.each field w (Contains-from_lookup same_bytes-true field w g other))
        (held field (Some v) (Some w) is other))

pub maps_one : (m n : finite.FinMap bytes_cmp FieldsValue) (p : MapState) → IsMapOf m p → IsMapOf n p → m ≡ n
maps_one m n p first second = same_map nat_list_cmp_total bytes_exact m n (λ key. by key (finite.get m key) (finite.get n key) refl refl)
  where
    held : (key : List ℕ) (a b : Option FieldsValue) → finite.get m key ≡ a → finite.get n key ≡ b → (field : List ℕ) (dot : Dot)
        → held_by fields_at a (field, tt) dot ≡ held_by fields_at b (field, tt) dot
    held key a b is other field dot =
        ap (λ o. held_by fields_at o (field, tt) dot) (sym is) ∙ first.at (place_of key field) dot ∙ sym (second.at (place_of key field) dot)
        ∙ ap (λ o. held_by fields_at o (field, tt) dot) other

    by : (key : List ℕ) (a b : Option FieldsValue) → finite.get m key ≡ a → finite.get n key ≡ b → a ≡ b
    by key None None is other = refl
    by key None (Some g) is other = absurd (second.filled key g other (λ place dot. sym (held key None (Some g) is other place.0 dot)))
    by key (Some f) None is other = absurd (first.filled key f is (λ place dot. held key (Some f) None is other place.0 dot))
    by key (Some f) (Some g) is other = ap Some (fields_one f g (first.ordered key f is) (second.ordered key g other) (held key (Some f) (Some g) is other))

-- ---- finite maps of lists

module _ {K X : Type 0} (R : K → K → Ordering) where
  find-lookup : (q : K) (es : List (K × X)) → find R q es ≡ lookup (is_at (R q)) es
  find-lookup q [] = refl
  find-lookup q (e ∷ es) = ap (cond (eq_by_cmp R q e.0) (Some e.1)) (find-lookup q es)

  below_by : (x : K) (es : List (K × X)) → T (below_all R x es) → AllByRecursion (λ y. R x y ≡ Less) (keys_of es)
  below_by x [] t = tt
  below_by x (e ∷ es) t = by (below_by x es) (R x e.0) refl t
    where
      by : (T (below_all R x es) → AllByRecursion (λ y. R x y ≡ Less) (keys_of es)) → (o : Ordering) → R x e.0 ≡ o → T (is_lt o && below_all R x es)
          → AllByRecursion (λ y. R x y ≡ Less) (keys_of (e ∷ es))
      by later Less is u = (is, later u)
      by later Equal is u = absurd u
      by later Greater is u = absurd u

  rising : (es : List (K × X)) → T (is_sorted R es) → IsStrictlySortedBy R (keys_of es)
  unfolding IsStrictlySortedBy
  rising [] t = tt
  rising (e ∷ es) t = by (rising es) (below_all R e.0 es) refl t
    where
      by : (T (is_sorted R es) → IsStrictlySortedBy R (keys_of es)) → (b : Bool) → below_all R e.0 es ≡ b → T (b && is_sorted R es)
          → IsStrictlySortedBy R (keys_of (e ∷ es))
      by later true is u = (below_by e.0 es (subst T (sym is) tt), later u)
      by later false is u = absurd u

  sorted_map : (m : finite.FinMap R X) → IsStrictlySortedBy R (keys_of (finite.entries m))
  sorted_map m = rising (finite.entries m) (entries_sorted m)

  module _ (exact : (x y : K) → R x y ≡ Equal → x ≡ y) (total : IsTotalOrder R) where
    found : (q : K) (es : List (K × X)) (x : X) → find R q es ≡ Some x → Contains es (q, x)
    found q [] x is = absurd (none-some x is)
    found q (e ∷ es) x is = by (λ then. in_tail e es (q, x) (found q es x then)) (R q e.0) refl is
      where
        here : q ≡ e.0 → Some e.1 ≡ Some x → Contains (e ∷ es) (q, x)
        here key value = at_same (e ∷ es) e (q, x) (let same : e.1 ≡ x = cc in λ i. (sym key i, same i)) (at_head e es)

        by : (find R q es ≡ Some x → Contains (e ∷ es) (q, x)) → (o : Ordering) → R q e.0 ≡ o → cond (is_eq o) (Some e.1) (find R q es) ≡ Some x
            → Contains (e ∷ es) (q, x)
        by later Less at then = later then
        by later Equal at then = here (exact q e.0 at) then
        by later Greater at then = later then

    missed : (q : K) (es : List (K × X)) (x : X) → find R q es ≡ None → Contains es (q, x) → ⊥
    missed q [] x is there = nothing_in (q, x) there
    missed q (e ∷ es) x is there = by (missed q es x) (R q e.0) refl is
      where
        apart_from : (find R q es ≡ None → Contains es (q, x) → ⊥) → find R q es ≡ None → (R q e.0 ≡ Equal → ⊥) → ⊥
        apart_from later none apart = elim (head_or_tail e es (q, x) there) [
          | inl same ↦ apart (ap (R q) (ap (λ p. p.0) same) ∙ tied_itself total q)
          | inr tail ↦ later none tail
        ]

        by : (find R q es ≡ None → Contains es (q, x) → ⊥) → (o : Ordering) → R q e.0 ≡ o → cond (is_eq o) (Some e.1) (find R q es) ≡ None → ⊥
        by later Less at then = apart_from later then (λ equal. absurd (let both : Less ≡ Equal = sym at ∙ equal in cc))
        by later Equal at then = none-some e.1 (sym then)
        by later Greater at then = apart_from later then (λ equal. absurd (let both : Greater ≡ Equal = sym at ∙ equal in cc))

    -- keys, each with what a function gives it
    given : (F : K → X) (ks : List K) (q : K) (x : X) → find R q (map (λ k. (k, F k)) ks) ≡ Some x → Contains ks q × (x ≡ F q)
    given F ks q x is =
        let from = from_map (λ k. (k, F k)) ks (q, x) (found q (map (λ k. (k, F k)) ks) x is) in
        let key : from.0 ≡ q = ap (λ p. p.0) from.2 in
        (at_same ks from.0 q key from.1, sym (ap (λ p. p.1) from.2) ∙ ap F key)

    not_given : (F : K → X) (ks : List K) (q : K) → find R q (map (λ k. (k, F k)) ks) ≡ None → Contains ks q → ⊥
    not_given F ks q is there = missed q (map (λ k. (k, F k)) ks) (F q) is (in_map (λ k. (k, F k)) ks q there)

-- ---- the map of a set of operations stands for its state

-- a dot and the value of a write
abbrev dot_and_value : Write → Dot × List ℕ
dot_and_value w = (w.id, w.value)

-- what is found under a dot is the value of the write that has it, where no dot was used twice
under_dot : (S : List Operation) (place : Place) (dot : Dot) → NoReuse S → find dot_cmp dot (map dot_and_value (shown S place))
    ≡ value_under dot (shown S place)
under_dot S place dot once = by (find dot_cmp dot (map dot_and_value ws)) (value_under dot ws) refl refl
  where
    ws : List Write
    ws = shown S place

    by : (a b : Option (List ℕ)) → find dot_cmp dot (map dot_and_value ws) ≡ a → value_under dot ws ≡ b → a ≡ b
    by None None is other = refl
    by None (Some x) is other =
        let w = found_under dot ws x other in
        absurd (missed dot_cmp dot_exact dot_cmp_total dot (map dot_and_value ws) x is
        (at_same (map dot_and_value ws) (dot_and_value w.0) (dot, x) (λ i. (w.2 i, w.3 i)) (in_map dot_and_value ws w.0 w.1)))
    by (Some y) None is other =
        let v = from_map dot_and_value ws (dot, y) (found dot_cmp dot_exact dot_cmp_total dot (map dot_and_value ws) y is) in
        absurd (stands_under dot ws v.0 v.1 (ap (λ p. p.0) v.2) other)
    by (Some y) (Some x) is other =
        let v = from_map dot_and_value ws (dot, y) (found dot_cmp dot_exact dot_cmp_total dot (map dot_and_value ws) y is) in
        let w = found_under dot ws x other in
        let same = once.one_write v.0 w.0 (from_shown S (is_on place) v.0 v.1).0 (from_shown S (is_on place) w.0 w.1).0 (ap (λ p. p.0) v.2 ∙ sym w.2) in
        ap Some (sym (ap (λ p. p.1) v.2) ∙ ap (λ u. u.value) same ∙ w.3)

values_at : (S : List Operation) (place : Place) (dot : Dot) → NoReuse S → at_values (values_by_dot S place) tt dot ≡ (state S).at place dot
unfolding at_values
values_at S place dot once =
    let es = map dot_and_value (shown S place) in
    let m : finite.FinMap dot_cmp (List ℕ) = finite.from_entries {R = dot_cmp} es in
    sym (lookup-dot_cmp dot (values_by_dot S place)) ∙ sym (find-lookup dot_cmp dot (values_by_dot S place)) ∙ sym (get-entries m dot)
    ∙ get-from_entries dot_cmp_total es dot ∙ under_dot S place dot once

is_there : (o : Option (List ℕ)) → (o ≡ None → ⊥) → IsSome o
is_there None f = absurd (f refl)
is_there (Some x) f = refl

-- a field that shows a value holds one, and another holds none
field_holds : (S : List Operation) (key field : List ℕ) → Contains (fields S key) field → (dot : Dot) × IsSome ((state S).at (place_of key field) dot)
field_holds S key field there =
    let shows = (fields-IsShown S key field).0 there in
    let ws = shown S (place_of key field) in
    (shows.0.id, is_there (value_under shows.0.id ws) (stands_under shows.0.id ws shows.0 ((shown-IsShown S (place_of key field) shows.0).1 shows.1) refl))

no_field_holds : (S : List Operation) (key field : List ℕ) (dot : Dot) → (Contains (fields S key) field → ⊥) → (state S).at (place_of key field) dot ≡ None
no_field_holds S key field dot none = by ((state S).at (place_of key field) dot) refl
  where
    by : (o : Option (List ℕ)) → (state S).at (place_of key field) dot ≡ o → o ≡ None
    by None is = refl
    by (Some x) is =
        let w = found_under dot (shown S (place_of key field)) x is in
        absurd (none ((fields-IsShown S key field).1 (w.0, (shown-IsShown S (place_of key field) w.0).0 w.1)))

field_at : (S : List Operation) (key field : List ℕ) (dot : Dot) → NoReuse S → fields_at (fields_by_dot S key) (field, tt) dot
    ≡ (state S).at (place_of key field) dot
unfolding at_stores
field_at S key field dot once = by (lookup (is_at (bytes_cmp field)) (fields_by_dot S key)) refl
  where
    F : List ℕ → ValuesValue
    F f = values_by_dot S (place_of key f)

    by : (o : Option ValuesValue) → lookup (is_at (bytes_cmp field)) (fields_by_dot S key) ≡ o
        → held_by at_values (lookup (is_at (bytes_cmp field)) (fields_by_dot S key)) tt dot ≡ (state S).at (place_of key field) dot
    by None is =
        ap (λ o. held_by at_values o tt dot) is
        ∙ sym (no_field_holds S key field dot (not_given bytes_cmp bytes_exact nat_list_cmp_total F (fields S key) field
        (find-lookup bytes_cmp field (fields_by_dot S key) ∙ is)))
    by (Some v) is =
        let of = given bytes_cmp bytes_exact nat_list_cmp_total F (fields S key) field v (find-lookup bytes_cmp field (fields_by_dot S key) ∙ is) in
        ap (λ o. held_by at_values o tt dot) (is ∙ ap Some of.1) ∙ values_at S (place_of key field) dot once

-- the fields of a key are in order
sorted_ascending : (xs : List (List ℕ)) → IsAscending xs → IsStrictlySortedBy bytes_cmp xs
unfolding IsStrictlySortedBy
sorted_ascending [] a = tt
sorted_ascending (x ∷ xs) a = (all_less xs (head_below x xs a).below, sorted_ascending xs (tail_ascends x xs a))
  where
    all_less : (ys : List (List ℕ)) → ((y : List ℕ) → Contains ys y → bytes_cmp x y ≡ Less) → AllByRecursion (λ y. bytes_cmp x y ≡ Less) ys
    all_less [] less = tt
    all_less (y ∷ ys) less = (less y (at_head y ys), all_less ys (λ z there. less z (in_tail y ys z there)))

keys_given : {K X : Type 0} (F : K → X) (ks : List K) → keys_of (map (λ k. (k, F k)) ks) ≡ ks
keys_given F [] = refl
keys_given F (k ∷ ks) = ap (λ xs. k ∷ xs) (keys_given F ks)

in_order : (S : List Operation) (key : List ℕ) → NoReuse S → IsInOrder (fields_by_dot S key)
in_order S key once = record {
  ordered = subst (IsStrictlySortedBy bytes_cmp) (sym (keys_given F (fields S key)))
      (sorted_ascending (fields S key) (ascending-ascends (map (λ w. w.place.field) (shown_within S key))));
  filled = filled_all at_values (fields_by_dot S key) (All-weaker (Contains (fields_by_dot S key)) (λ e. HasNothing (at_values e.1) → ⊥) filled
      (fields_by_dot S key) (All-contains_itself (fields_by_dot S key)));
  each = dots;
}
  where
    F : List ℕ → ValuesValue
    F f = values_by_dot S (place_of key f)

    filled : (e : List ℕ × ValuesValue) → Contains (fields_by_dot S key) e → HasNothing (at_values e.1) → ⊥
    filled e there nothing =
        let from = from_map (λ f. (f, F f)) (fields S key) e there in
        let holds = field_holds S key from.0 from.1 in
        let none : (state S).at (place_of key from.0) holds.0 ≡ None =
        sym (values_at S (place_of key from.0) holds.0 once) ∙ ap (λ v. at_values v tt holds.0) (ap (λ p. p.1) from.2) ∙ nothing tt holds.0 in
        absurd (false≢true (sym (ap is_some none) ∙ holds.1))

    dots : (field : List ℕ) (values : ValuesValue) → Contains (fields_by_dot S key) (field, values) → IsStrictlySortedBy dot_cmp (keys_of values)
    dots field values there =
        let from = from_map (λ f. (f, F f)) (fields S key) (field, values) there in
        let same : F from.0 ≡ values = ap (λ p. p.1) from.2 in
        subst (λ v. IsStrictlySortedBy dot_cmp (keys_of v)) same
        (sorted_map dot_cmp (finite.from_entries {R = dot_cmp} (map dot_and_value (shown S (place_of key from.0)))))

module _ (S : List Operation) (once : NoReuse S) where
  abbrev F : List ℕ → FieldsValue
  F key = fields_by_dot S key

  key_held : (key : List ℕ) (held : FieldsValue) → finite.get (map_of S) key ≡ Some held → Contains (keys S) key × (held ≡ F key)
  key_held key held is = given bytes_cmp bytes_exact nat_list_cmp_total F (keys S) key held
      (sym (get-from_entries nat_list_cmp_total (map (λ k. (k, F k)) (keys S)) key) ∙ is)

  key_at : (place : Place) (dot : Dot) → held_by fields_at (finite.get (map_of S) place.key) (place.field, tt) dot ≡ (state S).at place dot
  key_at place dot = by (finite.get (map_of S) place.key) refl
    where
      by : (o : Option FieldsValue) → finite.get (map_of S) place.key ≡ o → held_by fields_at (finite.get (map_of S) place.key) (place.field, tt) dot
          ≡ (state S).at place dot
      by None is =
          let none : Contains (keys S) place.key → ⊥ =
          not_given bytes_cmp bytes_exact nat_list_cmp_total F (keys S) place.key
          (sym (get-from_entries nat_list_cmp_total (map (λ k. (k, F k)) (keys S)) place.key) ∙ is) in
          ap (λ o. held_by fields_at o (place.field, tt) dot) is
          ∙ sym (no_field_holds S place.key place.field dot (λ there. none ((keys-IsShown S place.key).1 (place.field, there))))
      by (Some held) is =
          ap (λ o. held_by fields_at o (place.field, tt) dot) (is ∙ ap Some (key_held place.key held is).1) ∙ field_at S place.key place.field dot once

  pub stands_for : IsMapOf (map_of S) (state S)
  stands_for = record {
    at = key_at;
    filled = λ key held is nothing.
        let of = key_held key held is in
        let field = (keys-IsShown S key).0 of.0 in
        let holds = field_holds S key field.0 field.1 in
        let none : (state S).at (place_of key field.0) holds.0 ≡ None =
        sym (field_at S key field.0 holds.0 once) ∙ ap (λ f. fields_at f (field.0, tt) holds.0) (sym of.1) ∙ nothing (field.0, tt) holds.0 in
        false≢true (sym (ap is_some none) ∙ holds.1);
    ordered = λ key held is. subst IsInOrder (sym (key_held key held is).1) (in_order S key once);
  }

  -- so what stands for the state is the map of the set
  pub map_is : (m : finite.FinMap bytes_cmp FieldsValue) (p : MapState) → IsMapOf m p → Same p (state S) → m ≡ map_of S
  map_is m p stands same = maps_one m (map_of S) (state S)
      (record { at = λ place dot. stands.at place dot ∙ same.at place dot; filled = stands.filled; ordered = stands.ordered }) stands_for

-- sets with the same members have one map
pub same_map_of : (S T : List Operation) → NoReuse S → IsSameSet S T → map_of S ≡ map_of T
same_map_of S T once same = map_is T (NoReuse-part T S same.back once) (map_of S) (state S) (stands_for S once) (state-same S T same)
