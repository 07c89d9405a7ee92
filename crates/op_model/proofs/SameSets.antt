-- Sets of operations with the same members have the same writes, the same known dots, and the same state.
use Rattle.std.proofs.Common.{◌≡◌, ℕ, List, [], ◌∷◌, ◌++◌, refl, sym, ap, ◌∙◌, inl, inr, Bool, true, false, not, ◌&&◌, Option, Some, None}
use Rattle.std.specs.Prelude.{Contains}
use Rattle.std.proofs.lemmas.Bool.{and_parts, and_from, or_cases, or_left, or_right, false≢true, not-true, not_from_false}
use Rattle.dots.specs.declared.dot.Dot.{Dot}
use Rattle.dots.specs.Dot.{same_dot}
use Rattle.op_model.specs.State.{Same}
use Rattle.op_model.specs.Operation.{Write, Operation, Wrote, Erased, writes, observed, over_of, ids, has, known, IsPartOf, IsSameSet}
use Rattle.op_model.specs.Shown.{is_on, shown, shown_where}
use Rattle.op_model.specs.Meaning.{greater, greater_if, value_under, state}
use Rattle.op_model.proofs.Greater.{greater-comm, greater-assoc, greater-idem}
use Rattle.op_model.proofs.Dots.{has-append, in_has, from_has}
use Rattle.op_model.proofs.Members.{nothing_in, at_head, in_tail, head_or_tail, at_same, in_map, from_map, in_filter, from_filter}
use Rattle.op_model.proofs.Union.{best, greater_if-best}

-- two tests of which each implies the other
pub both_ways : (s t : Bool) → (s ≡ true → t ≡ true) → (t ≡ true → s ≡ true) → s ≡ t
both_ways true t f g = sym (f refl)
both_ways false true f g = g refl
both_ways false false f g = refl

pub in_writes : (S : List Operation) (w : Write) → Contains S (Wrote w) → Contains (writes S) w
in_writes [] w h = nothing_in (Wrote w) h
in_writes (Wrote v ∷ S) w h =
    elim (head_or_tail (Wrote v) S (Wrote w) h) [
      | inl e ↦ let same : v ≡ w = cc in at_same (v ∷ writes S) v w same (at_head v (writes S))
      | inr t ↦ in_tail v (writes S) w (in_writes S w t)
    ]
in_writes (Erased over ∷ S) w h =
    elim (head_or_tail (Erased over) S (Wrote w) h) [ inl e ↦ absurd (cc) | inr t ↦ in_writes S w t ]

pub from_writes : (S : List Operation) (w : Write) → Contains (writes S) w → Contains S (Wrote w)
from_writes [] w h = nothing_in w h
from_writes (Wrote v ∷ S) w h =
    elim (head_or_tail v (writes S) w h) [
      | inl e ↦ at_same (Wrote v ∷ S) (Wrote v) (Wrote w) (ap Wrote e) (at_head (Wrote v) S)
      | inr t ↦ in_tail (Wrote v) S (Wrote w) (from_writes S w t)
    ]
from_writes (Erased over ∷ S) w h = in_tail (Erased over) S (Wrote w) (from_writes S w h)

observed-cons : (o : Operation) (S : List Operation) → observed (o ∷ S) ≡ over_of o ++ observed S
observed-cons (Wrote w) S = refl
observed-cons (Erased over) S = refl

pub in_observed : (S : List Operation) (o : Operation) (dot : Dot) → Contains S o → has (over_of o) dot ≡ true → has (observed S) dot ≡ true
in_observed [] o dot h e = nothing_in o h
in_observed (p ∷ S) o dot h e =
    ap (λ ds. has ds dot) (observed-cons p S) ∙ has-append (over_of p) (observed S) dot
    ∙ elim (head_or_tail p S o h) [
      | inl same ↦ or_left (has (over_of p) dot) (has (observed S) dot) (ap (λ q. has (over_of q) dot) same ∙ e)
      | inr t ↦ or_right (has (over_of p) dot) (has (observed S) dot) (in_observed S o dot t e)
    ]

pub from_observed : (S : List Operation) (dot : Dot) → has (observed S) dot ≡ true → (o : Operation) × Contains S o × (has (over_of o) dot ≡ true)
from_observed [] dot e = absurd (false≢true e)
from_observed (p ∷ S) dot e =
    elim (or_cases (has (over_of p) dot) (has (observed S) dot) (sym (has-append (over_of p) (observed S) dot)
    ∙ sym (ap (λ ds. has ds dot) (observed-cons p S)) ∙ e)) [
      | inl f ↦ (p, at_head p S, f)
      | inr f ↦ let found = from_observed S dot f in (found.0, in_tail p S found.0 found.1, found.2)
    ]

-- what follows from being a part
module _ (S T : List Operation) (part : IsPartOf S T) where
  pub writes_part : (w : Write) → Contains (writes S) w → Contains (writes T) w
  writes_part w h = in_writes T w (part (Wrote w) (from_writes S w h))

  pub observed_part : (dot : Dot) → has (observed S) dot ≡ true → has (observed T) dot ≡ true
  observed_part dot e = let found = from_observed S dot e in in_observed T found.0 dot (part found.0 found.1) found.2

  pub ids_part : (dot : Dot) → has (ids (writes S)) dot ≡ true → has (ids (writes T)) dot ≡ true
  ids_part dot e =
      let found = from_map (λ w. w.id) (writes S) dot (from_has (ids (writes S)) dot e) in
      in_has (ids (writes T)) dot (at_same (ids (writes T)) found.0.id dot found.2 (in_map (λ w. w.id) (writes T) found.0 (writes_part found.0 found.1)))

  pub known_part : (dot : Dot) → has (known S) dot ≡ true → has (known T) dot ≡ true
  known_part dot e =
      has-append (ids (writes T)) (observed T) dot
      ∙ elim (or_cases (has (ids (writes S)) dot) (has (observed S) dot) (sym (has-append (ids (writes S)) (observed S) dot) ∙ e)) [
        | inl f ↦ or_left (has (ids (writes T)) dot) (has (observed T) dot) (ids_part dot f)
        | inr f ↦ or_right (has (ids (writes T)) dot) (has (observed T) dot) (observed_part dot f)
      ]

-- the writes that a set shows, one way and the other
pub from_shown : (S : List Operation) (test : Write → Bool) (w : Write) → Contains (shown_where S test) w →
    Contains (writes S) w × (test w ≡ true) × (has (observed S) w.id ≡ false)
from_shown S test w h =
    let parts = from_filter (λ v. test v && not (has (observed S) v.id)) (writes S) w h in
    let tests = and_parts (test w) (not (has (observed S) w.id)) parts.1 in
    (parts.0, tests.0, not-true (has (observed S) w.id) tests.1)

pub in_shown : (S : List Operation) (test : Write → Bool) (w : Write) → Contains (writes S) w → test w ≡ true → has (observed S) w.id ≡ false →
    Contains (shown_where S test) w
in_shown S test w h e f =
    in_filter (λ v. test v && not (has (observed S) v.id)) (writes S) w h
    (and_from (test w) (not (has (observed S) w.id)) e (not_from_false (has (observed S) w.id) f))

-- the value under a dot goes by the members alone
greater_if-twice : (b : Bool) (x : List ℕ) (o : Option (List ℕ)) → greater_if b x (greater_if b x o) ≡ greater_if b x o
greater_if-twice false x o = refl
greater_if-twice true x None = ap Some (greater-idem x)
greater_if-twice true x (Some y) = ap Some (sym (greater-assoc x x y) ∙ ap (λ z. greater z y) (greater-idem x))

greater_if-swap : (b c : Bool) (x y : List ℕ) (o : Option (List ℕ)) → greater_if b x (greater_if c y o) ≡ greater_if c y (greater_if b x o)
greater_if-swap false c x y o = refl
greater_if-swap true false x y o = refl
greater_if-swap true true x y None = ap Some (greater-comm x y)
greater_if-swap true true x y (Some z) = ap Some (sym (greater-assoc x y z) ∙ ap (λ t. greater t z) (greater-comm x y) ∙ greater-assoc y x z)

absorbed : (dot : Dot) (ws : List Write) (w : Write) → Contains ws w → greater_if (same_dot w.id dot) w.value (value_under dot ws) ≡ value_under dot ws
absorbed dot [] w h = nothing_in w h
absorbed dot (v ∷ ws) w h =
    elim (head_or_tail v ws w h) [
      | inl e ↦ ap (λ u. greater_if (same_dot u.id dot) u.value (value_under dot (v ∷ ws))) (sym e)
          ∙ greater_if-twice (same_dot v.id dot) v.value (value_under dot ws)
      | inr t ↦ greater_if-swap (same_dot w.id dot) (same_dot v.id dot) w.value v.value (value_under dot ws)
          ∙ ap (greater_if (same_dot v.id dot) v.value) (absorbed dot ws w t)
    ]

best-comm : (a b : Option (List ℕ)) → best a b ≡ best b a
best-comm (Some x) (Some y) = ap Some (greater-comm x y)
best-comm (Some x) None = refl
best-comm None (Some y) = refl
best-comm None None = refl

covered : (dot : Dot) (ws vs : List Write) → ((w : Write) → Contains ws w → Contains vs w) → best (value_under dot ws) (value_under dot vs) ≡ value_under dot vs
covered dot [] vs f = refl
covered dot (w ∷ ws) vs f =
    sym (greater_if-best (same_dot w.id dot) w.value (value_under dot ws) (value_under dot vs))
    ∙ ap (greater_if (same_dot w.id dot) w.value) (covered dot ws vs (λ v h. f v (in_tail w ws v h)))
    ∙ absorbed dot vs w (f w (at_head w ws))

pub value_under-same : (dot : Dot) (ws vs : List Write) → ((w : Write) → Contains ws w → Contains vs w) → ((w : Write) → Contains vs w → Contains ws w) →
    value_under dot ws ≡ value_under dot vs
value_under-same dot ws vs f g = sym (covered dot vs ws g) ∙ best-comm (value_under dot vs) (value_under dot ws) ∙ covered dot ws vs f

-- sets with the same members show the same
pub shown_same : (S T : List Operation) (same : IsSameSet S T) (test : Write → Bool) (w : Write) → Contains (shown_where S test) w
    → Contains (shown_where T test) w
shown_same S T same test w h =
    let parts = from_shown S test w h in
    in_shown T test w (writes_part S T same.there w parts.0) parts.1
    (both_ways (has (observed T) w.id) (has (observed S) w.id) (observed_part T S same.back w.id) (observed_part S T same.there w.id) ∙ parts.2)

pub state-same : (S T : List Operation) → IsSameSet S T → Same (state S) (state T)
state-same S T same = record {
  at = λ place dot. value_under-same dot (shown S place) (shown T place) (shown_same S T same (is_on place))
      (shown_same T S (record { there = same.back; back = same.there }) (is_on place));
  has = λ dot. both_ways (has (known S) dot) (has (known T) dot) (known_part S T same.there dot) (known_part T S same.back dot);
}
