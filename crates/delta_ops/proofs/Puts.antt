-- The delta of a put, from what its store and its context hold: over plain variables.
use Rattle.std.proofs.Common.{◌≡◌, ℕ, ◌+◌, ◌-◌, ◌≤◌, Bool, true, false, cond, ◌&&◌, ◌||◌, List, [], ◌∷◌, map, Option, Some, None, is_some, IsSome, IsTrue, ◌⊎◌}
use Rattle.std.proofs.Common.{inl, inr, zero, suc, refl, sym, ◌∙◌, ap, arith}
use Rattle.std.specs.Map.{lookup}
use Rattle.std.specs.BTreeMap.{is_at}
use Rattle.causal_context.specs.Context.{ContextValue, IsGreatest}
use Rattle.causal_context.specs.Context as context
use Rattle.causal_join.specs.Causal.{state_of}
use Rattle.dot_store.specs.Stores.{at_stores, at_values, held_by}
use Rattle.dots.specs.Dot.{DotValue, same_dot}
use Rattle.causal_join.specs.OrMap.{ValuesValue, FieldsValue, OrMapStoreValue, OrMapValue, fields_at, or_map_at, path_of, or_map_state}
use Rattle.op_model.specs.Place.{Place, place_of, same_place}
use Rattle.op_model.specs.State.{Same, IsInside}
use Rattle.op_model.specs.Operation.{Write, Wrote, has}
use Rattle.op_model.specs.Made.{IsNext, IsPutAt}
use Rattle.op_model.specs.Meaning.{state}
use Rattle.dots.specs.Bytes.{bytes_cmp}
use Rattle.op_model.proofs.Dots.{same_dot-symm}
use Rattle.op_model.proofs.Making.{at-write-own, has-write}

-- the dots of a map from dots to values
abbrev pub dots_of : Option (List (DotValue × List ℕ)) → List DotValue
dots_of None = []
dots_of (Some values) = map (λ entry. entry.0) values

-- the values at a field, if they are there
abbrev pub values_found : Option FieldsValue → List ℕ → Option ValuesValue
values_found None field = None
values_found (Some fields) field = lookup (is_at (bytes_cmp field)) fields

-- the dots that stand at a place
abbrev pub dots_at : OrMapStoreValue → Place → List DotValue
dots_at stores place = dots_of (values_found (lookup (is_at (bytes_cmp place.key)) stores) place.field)

found_or : (b : Bool) (v : List ℕ) (o : Option (List ℕ)) → (b || is_some o) ≡ is_some (cond b (Some v) o)
found_or true v o = refl
found_or false v o = refl

has-values : (values : List (DotValue × List ℕ)) (d : DotValue) → has (map (λ entry. entry.0) values) d ≡ is_some (lookup (same_dot d) values)
has-values [] d = refl
has-values ((dot, v) ∷ values) d = rw (same_dot-symm dot d, has-values values d) (found_or (same_dot d dot) v (lookup (same_dot d) values))

pub has-at_values : (values : List (DotValue × List ℕ)) (d : DotValue) → has (map (λ entry. entry.0) values) d ≡ is_some (at_values values tt d)
unfolding at_values
has-at_values values d = has-values values d

has-dots_of : (found : Option ValuesValue) (d : DotValue) → has (dots_of found) d ≡ is_some (held_by at_values found tt d)
unfolding at_values
has-dots_of None d = refl
has-dots_of (Some values) d = has-values values d

pub has-dots_at : (stores : OrMapStoreValue) (place : Place) (d : DotValue) → has (dots_at stores place) d ≡ is_some (or_map_at stores (path_of place) d)
unfolding at_stores
has-dots_at stores place d = go (lookup (is_at (bytes_cmp place.key)) stores)
  where
    go : (found : Option FieldsValue) → has (dots_of (values_found found place.field)) d ≡ is_some (held_by fields_at found (place.field, tt) d)
    go None = refl
    go (Some fields) = has-dots_of (lookup (is_at (bytes_cmp place.field)) fields) d

-- the write that a put makes at a pair
abbrev pub write_of : OrMapValue → DotValue → Place → List ℕ → Write
write_of live dot place value = record { id = dot; place = place; value = value; over = dots_at live.0 place }

-- the next dot, in the words of the model
least : (name n : ℕ) (dot : DotValue) (test : DotValue → Bool) → IsGreatest name test n → dot.number ≡ n + 1
    → (dot.number ≡ 1) ⊎ IsTrue (test (record { name = name; number = dot.number - 1 }))
least name zero dot test greatest number = inl number
least name (suc n) dot test greatest number =
    let before : dot.number - 1 ≡ suc n = omega arith in
    inr (rw before (greatest.known (omega arith)))

pub next_is : (name : ℕ) (test : DotValue → Bool) (dot : DotValue) → context.IsNext name test dot → IsNext name test dot
next_is name test dot next = record {
  named = next.name;
  above = λ d named known.
      let within : d.number ≤ next.greatest = next.is_greatest.bound d.number (rw (← named) known) in
      omega (arith, next.number, within);
  least = least name next.greatest dot test next.is_greatest next.number;
}

-- the put was made at the pair
pub put_at_pair : (live : OrMapValue) (name : ℕ) (place : Place) (value : List ℕ) (dot : DotValue) → context.IsNext name (context.has live.1) dot
    → IsPutAt (or_map_state live) name place value (write_of live dot place value)
put_at_pair live name place value dot next = record {
  id = next_is name (context.has live.1) dot next;
  same_place = refl;
  same_value = refl;
  over = has-dots_at live.0 place;
}

-- what the new dot did not observe: itself
not_itself : (live : OrMapValue) (place : Place) (dot : DotValue) → IsInside (state_of or_map_at live) → context.has live.1 dot ≡ false
    → has (dots_at live.0 place) dot ≡ false
not_itself live place dot inside unknown = has-dots_at live.0 place dot ∙ go (or_map_at live.0 (path_of place) dot) (inside (path_of place) dot)
  where
    go : (held : Option (List ℕ)) → (IsSome held → IsTrue (context.has live.1 dot)) → is_some held ≡ false
    go None known = refl
    go (Some v) known = let yes : context.has live.1 dot ≡ true = known refl in absurd (let turned : false ≡ true = sym unknown ∙ yes in cc)

-- the store and the context of the delta
pub record IsDelta (live : OrMapValue) (place : Place) (value : List ℕ) (dot : DotValue) (store : OrMapStoreValue) (knows : ContextValue) : Type 0 where
  pub held : (p : Place) (d : DotValue) → or_map_at store (path_of p) d ≡ cond (same_place place p && same_dot dot d) (Some value) None
  pub known : (d : DotValue) → context.has knows d ≡ (same_dot dot d || is_some (or_map_at live.0 (path_of place) d))

pub delta_inside : (live : OrMapValue) (place : Place) (value : List ℕ) (dot : DotValue) (store : OrMapStoreValue) (knows : ContextValue)
    → IsDelta live place value dot store knows
    → IsInside (state_of or_map_at (store, knows))
delta_inside live place value dot store knows delta path d some =
    go (same_place place (place_of path.0 path.1.0)) (same_dot dot d) (or_map_at store path d) (context.has knows d) _ (delta.held (place_of path.0 path.1.0) d)
    (delta.known d) some
  where
    go : (a b : Bool) (held : Option (List ℕ)) (test rest : Bool) → held ≡ cond (a && b) (Some value) None → test ≡ (b || rest) → IsSome held → IsTrue test
    go a true held test rest is known some = known
    go true false held test rest is known some = absurd (let none : IsSome {T = List ℕ} None = rw is at some in cc)
    go false false held test rest is known some = absurd (let none : IsSome {T = List ℕ} None = rw is at some in cc)

pub delta_state : (live : OrMapValue) (place : Place) (value : List ℕ) (dot : DotValue) (store : OrMapStoreValue) (knows : ContextValue)
    → IsDelta live place value dot store knows
    → IsInside (state_of or_map_at live) → context.has live.1 dot ≡ false
    → Same (or_map_state (store, knows)) (state (Wrote (write_of live dot place value) ∷ []))
delta_state live place value dot store knows delta inside unknown = record {
  at = λ p d. delta.held p d ∙ sym (at-write-own (write_of live dot place value) (not_itself live place dot inside unknown) p d);
  has = λ d. delta.known d ∙ (ap (λ b. same_dot dot d || b) (sym (has-dots_at live.0 place d)) ∙ sym (has-write (write_of live dot place value) d));
}
