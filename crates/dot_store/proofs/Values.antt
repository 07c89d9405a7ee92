-- What a map from dots to values holds, over its list of entries.
use Rattle.std.proofs.Common.{◌≡◌, ℕ, ◌<◌, Bool, cond, List, [], ◌∷◌, length, get_or, Option, Some, None, refl, sym, ap, ◌∙◌, subst, eqb, eq-eqb, eqb-true}
use Rattle.std.specs.Prelude.{IsTrue, IsSome, is_some}
use Rattle.std.specs.Ordering.{is_eq}
use Rattle.std.specs.Map.{lookup}
use Rattle.std.specs.BTreeMap.{is_at}
use Rattle.std.specs.List.{All}
use Rattle.dots.specs.Dot.{DotValue, same_dot}
use Rattle.causal_context.specs.Dots.{dot_cmp}
use Rattle.causal_context.proofs.Dots.{is_eq-dot_cmp, lookup-dot_cmp, same_dot-refl, same_from_test, dot_cmp_total}
use Rattle.op_model.specs.State.{joined}
use Rattle.dot_store.specs.Store.{HoldsDot}
use Rattle.dot_store.specs.Stores.{at_values}
use Rattle.ordered_list.proofs.Places.{Ascends, item_found, entry_found}

module _ {V : Type 0} where
  some_value : (o : Option V) → IsSome o → (v : V) × (o ≡ Some v)
  some_value None h = absurd (cc h)
  some_value (Some v) h = (v, refl)

  -- what is held, by what the ordered map finds
  pub at_values-found : (es : List (DotValue × V)) (place : Unit {0}) (d : DotValue) → at_values es place d ≡ lookup (is_at (dot_cmp d)) es
  unfolding at_values
  at_values-found es place d = sym (lookup-dot_cmp d es)

  pub nothing_from_no_entry : (es : List (DotValue × V)) → length es ≡ 0 → (place : Unit {0}) (d : DotValue) → at_values es place d ≡ None
  unfolding at_values
  nothing_from_no_entry [] e place d = refl
  nothing_from_no_entry (x ∷ es) e place d = absurd (cc e)

  pub no_entry_from_nothing : (es : List (DotValue × V)) → ((place : Unit {0}) (d : DotValue) → at_values es place d ≡ None) → length es ≡ 0
  unfolding at_values
  no_entry_from_nothing [] h = refl
  no_entry_from_nothing (x ∷ es) h =
      let here : at_values (x ∷ es) tt x.0 ≡ Some x.1 = rw (same_dot-refl x.0) refl in
      absurd (cc (here, h tt x.0))

  pub nothing_from_test : (es : List (DotValue × V)) (r : Bool) → r ≡ eqb (length es) 0 → IsTrue r → (place : Unit {0}) (d : DotValue)
      → at_values es place d ≡ None
  nothing_from_test es r is t = nothing_from_no_entry es (eqb-true (length es) 0 (sym is ∙ t))

  pub test_from_nothing : (es : List (DotValue × V)) (r : Bool) → r ≡ eqb (length es) 0
      → ((place : Unit {0}) (d : DotValue) → at_values es place d ≡ None) → IsTrue r
  test_from_nothing es r is h = is ∙ eq-eqb (length es) 0 (no_entry_from_nothing es h)

  -- a map after an insert
  pub at_values-insert : (old new : List (DotValue × V)) (dot d : DotValue) (v : V) (place : Unit {0})
      → lookup (is_at (dot_cmp d)) new ≡ cond (is_eq (dot_cmp dot d)) (Some v) (lookup (is_at (dot_cmp d)) old)
      → at_values new place d ≡ cond (same_dot dot d) (Some v) (at_values old place d)
  unfolding at_values
  at_values-insert old new dot d v place h =
      at_values-found new place d ∙ h ∙ ap (λ b. cond b (Some v) (lookup (is_at (dot_cmp d)) old)) (is_eq-dot_cmp dot d)
      ∙ ap (λ o. cond (same_dot dot d) (Some v) o) (lookup-dot_cmp d old)

  -- the table at equal sides
  pub joined_along : (greater : V → V → V) (o o' p p' : Option V) (own theirs : Bool) → o ≡ o' → p ≡ p'
      → joined greater o own p theirs ≡ joined greater o' own p' theirs
  joined_along greater o o' p p' own theirs e f = rw (e, f) refl

  -- what an entry holds, and what is held as an entry
  pub held_from_item : (es : List (DotValue × V)) (i : ℕ) (e : DotValue × V) → Ascends dot_cmp es → i < length es → e ≡ get_or es i e → (d : DotValue) → e.0 ≡ d
      → HoldsDot (at_values es) d
  unfolding at_values
  held_from_item es i e s h is d same =
      (tt, subst (λ q. IsSome (at_values es tt q)) same (ap is_some (at_values-found es tt e.0 ∙ item_found dot_cmp dot_cmp_total es i e s h is)))

  pub item_from_held : (P : DotValue × V → Type 0) (es : List (DotValue × V)) → All P es → (place : Unit {0}) (d : DotValue) → IsSome (at_values es place d)
      → (v : V) × P (d, v)
  unfolding at_values
  item_from_held P es all place d h =
      let there = some_value (at_values es place d) h in
      let found = entry_found P (same_dot d) es there.0 all there.1 in
      (there.0, subst (λ q. P (q, there.0)) (sym (same_from_test d found.0 found.1)) found.2)
