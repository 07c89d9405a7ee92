-- The state of a set of operations, and that the join of two states is the state of the union.
use Rattle.std.proofs.Common.{◌≡◌, ℕ, List, [], ◌∷◌, ◌++◌, refl, sym, ap, ◌∙◌, subst, ◌⊎◌, inl, inr, Bool, true, false, cond, not, ◌&&◌, ◌||◌, Option, Some}
use Rattle.std.proofs.Common.{None}
use Rattle.std.specs.Prelude.{Contains, filter}
use Rattle.std.proofs.lemmas.Bool.{false≢true}
use Rattle.std.proofs.lemmas.List.{map-append, append_assoc}
use Rattle.std.proofs.lemmas.List.Elements.{filter-append, Contains-append_left, Contains-append_right, Contains-append_cases}
use Rattle.dots.specs.declared.dot.Dot.{Dot}
use Rattle.dots.specs.Dot.{same_dot}
use Rattle.op_model.specs.State.{joined, join, Same}
use Rattle.op_model.specs.Operation.{Write, Operation, Wrote, Erased, writes, observed, ids, has, NoReuse}
use Rattle.std.specs.Ordering.{is_lt}
use Rattle.dots.specs.Bytes.{bytes_cmp}
use Rattle.op_model.specs.Place.{Place}
use Rattle.op_model.specs.Shown.{is_on}
use Rattle.op_model.specs.Meaning.{greater, greater_if, value_under, state}
use Rattle.op_model.proofs.Greater.{greater-assoc}
use Rattle.op_model.proofs.Dots.{same_dot-true, same_dot-self, has-append, from_has}
use Rattle.op_model.proofs.Members.{nothing_in, at_head, in_tail, head_or_tail, from_map, in_filter, from_filter}

pub writes-append : (S T : List Operation) → writes (S ++ T) ≡ writes S ++ writes T
writes-append [] T = refl
writes-append (Wrote w ∷ S) T = ap (λ ws. w ∷ ws) (writes-append S T)
writes-append (Erased over ∷ S) T = writes-append S T

pub observed-append : (S T : List Operation) → observed (S ++ T) ≡ observed S ++ observed T
observed-append [] T = refl
observed-append (Wrote w ∷ S) T = ap (λ ds. w.over ++ ds) (observed-append S T) ∙ sym (append_assoc w.over (observed S) (observed T))
observed-append (Erased over ∷ S) T = ap (λ ds. over ++ ds) (observed-append S T) ∙ sym (append_assoc over (observed S) (observed T))

-- the greater of two values, where there are two
abbrev pub best : Option (List ℕ) → Option (List ℕ) → Option (List ℕ)
best None b = b
best (Some x) None = Some x
best (Some x) (Some y) = Some (greater x y)

pub greater_if-best : (b : Bool) (x : List ℕ) (a c : Option (List ℕ)) → greater_if b x (best a c) ≡ best (greater_if b x a) c
greater_if-best false x a c = refl
greater_if-best true x None None = refl
greater_if-best true x None (Some z) = refl
greater_if-best true x (Some y) None = refl
greater_if-best true x (Some y) (Some z) = ap Some (sym (greater-assoc x y z))

best-none : (a : Option (List ℕ)) → best a None ≡ a
best-none None = refl
best-none (Some x) = refl

pub value_under-append : (dot : Dot) (ws vs : List Write) → value_under dot (ws ++ vs) ≡ best (value_under dot ws) (value_under dot vs)
value_under-append dot [] vs = refl
value_under-append dot (w ∷ ws) vs =
    ap (greater_if (same_dot w.id dot) w.value) (value_under-append dot ws vs)
    ∙ greater_if-best (same_dot w.id dot) w.value (value_under dot ws) (value_under dot vs)

pub under_cond : (dot : Dot) (b : Bool) (w : Write) (ws : List Write) →
    value_under dot (cond b (w ∷ ws) ws) ≡ cond b (greater_if (same_dot w.id dot) w.value (value_under dot ws)) (value_under dot ws)
under_cond dot true w ws = refl
under_cond dot false w ws = refl

hidden_step : (t h g s : Bool) (x : List ℕ) (a b : Option (List ℕ)) → (s ≡ true → h ≡ g) → a ≡ cond g None b →
    cond (t && not h) (greater_if s x a) a ≡ cond g None (cond t (greater_if s x b) b)
hidden_step false h g s x a b same rest = rest
hidden_step true true true s x a b same rest = rest
hidden_step true true false true x a b same rest = absurd (false≢true (sym (same refl)))
hidden_step true true false false x a b same rest = rest
hidden_step true false true true x a b same rest = absurd (false≢true (same refl))
hidden_step true false true false x a b same rest = rest
hidden_step true false false s x a b same rest = ap (greater_if s x) rest

-- where the dot was observed nothing stands, and elsewhere what was written there
pub hidden : (ds : List Dot) (test : Write → Bool) (dot : Dot) (ws : List Write) →
    value_under dot (filter (λ w. test w && not (has ds w.id)) ws) ≡ cond (has ds dot) None (value_under dot (filter test ws))
hidden ds test dot [] = cond_none (has ds dot)
  where
    cond_none : (b : Bool) → ◌≡◌ {A = Option (List ℕ)} None (cond b None None)
    cond_none true = refl
    cond_none false = refl
hidden ds test dot (w ∷ ws) =
    under_cond dot (test w && not (has ds w.id)) w (filter (λ v. test v && not (has ds v.id)) ws)
    ∙ hidden_step (test w) (has ds w.id) (has ds dot) (same_dot w.id dot) w.value
    (value_under dot (filter (λ v. test v && not (has ds v.id)) ws)) (value_under dot (filter test ws))
    (λ same. ap (has ds) (same_dot-true w.id dot same)) (hidden ds test dot ws)
    ∙ sym (ap (cond (has ds dot) None) (under_cond dot (test w) w (filter test ws)))

-- what stands at a place and dot
pub at-state : (S : List Operation) (place : Place) (dot : Dot) → (state S).at place dot
    ≡ cond (has (observed S) dot) None (value_under dot (filter (is_on place) (writes S)))
at-state S place dot = hidden (observed S) (is_on place) dot (writes S)

pub has-state : (S : List Operation) (dot : Dot) → (state S).has dot ≡ (has (ids (writes S)) dot || has (observed S) dot)
has-state S dot = has-append (ids (writes S)) (observed S) dot

one_of_two : (b : Bool) (x y z : List ℕ) → cond b x y ≡ z → (x ≡ z) ⊎ (y ≡ z)
one_of_two true x y z e = inl e
one_of_two false x y z e = inr e

greater_if-some : (b : Bool) (v : List ℕ) (o : Option (List ℕ)) (x : List ℕ) → greater_if b v o ≡ Some x → ((b ≡ true) × (v ≡ x)) ⊎ (o ≡ Some x)
greater_if-some false v o x e = inr e
greater_if-some true v None x e = let same : v ≡ x = cc in inl (refl, same)
greater_if-some true v (Some u) x e =
    let same : greater v u ≡ x = cc in
    elim (one_of_two (is_lt (bytes_cmp u v)) v u x same) [ inl f ↦ inl (refl, f) | inr f ↦ inr (ap Some f) ]

greater_if-none : (b : Bool) (v : List ℕ) (o : Option (List ℕ)) → greater_if b v o ≡ None → (b ≡ true → ⊥) × (o ≡ None)
greater_if-none false v o e = (λ h. false≢true h, e)
greater_if-none true v None e = absurd (cc)
greater_if-none true v (Some u) e = absurd (cc)

-- the value under a dot is that of a write that is there under it
pub found_under : (dot : Dot) (ws : List Write) (x : List ℕ) → value_under dot ws ≡ Some x → (w : Write) × Contains ws w × (w.id ≡ dot) × (w.value ≡ x)
found_under dot [] x e = absurd (cc)
found_under dot (w ∷ ws) x e =
    elim (greater_if-some (same_dot w.id dot) w.value (value_under dot ws) x e) [
      | inl f ↦ (w, at_head w ws, same_dot-true w.id dot f.0, f.1)
      | inr f ↦ let found = found_under dot ws x f in (found.0, in_tail w ws found.0 found.1, found.2, found.3)
    ]

-- where a write is there under a dot, something stands under it
pub stands_under : (dot : Dot) (ws : List Write) (w : Write) → Contains ws w → w.id ≡ dot → value_under dot ws ≡ None → ⊥
stands_under dot [] w h same none = nothing_in w h
stands_under dot (v ∷ ws) w h same none =
    let parts = greater_if-none (same_dot v.id dot) v.value (value_under dot ws) none in
    elim (head_or_tail v ws w h) [
      | inl e ↦ parts.0 (ap (λ u. same_dot u.id dot) e ∙ ap (λ d. same_dot d dot) same ∙ same_dot-self dot)
      | inr t ↦ stands_under dot ws w t same parts.1
    ]

-- the union at one place and dot: i and j say whether the sides wrote the dot, r and s whether they had observed it
union_at : (a b : Option (List ℕ)) (i j r s : Bool) →
    ((x : List ℕ) → a ≡ Some x → j ≡ true → b ≡ None → ⊥) → ((y : List ℕ) → b ≡ Some y → i ≡ true → a ≡ None → ⊥) →
    joined greater (cond r None a) (i || r) (cond s None b) (j || s) ≡ cond (r || s) None (best a b)
union_at (Some x) (Some y) i j false false f g = refl
union_at (Some x) None i true false false f g = absurd (f x refl refl refl)
union_at (Some x) None i false false false f g = refl
union_at None (Some y) true j false false f g = absurd (g y refl refl refl)
union_at None (Some y) false j false false f g = refl
union_at None None i j false false f g = refl
union_at (Some x) b i true false true f g = refl
union_at (Some x) b i false false true f g = refl
union_at None b i j false true f g = refl
union_at a (Some y) true j true false f g = refl
union_at a (Some y) false j true false f g = refl
union_at a None i j true false f g = refl
union_at a b i j true true f g = refl

pub in_writes_left : (S T : List Operation) (w : Write) → Contains (writes S) w → Contains (writes (S ++ T)) w
in_writes_left S T w h = let P : List Write → Type 0 = λ ws. Contains ws w in subst P (sym (writes-append S T)) (Contains-append_left (writes S) (writes T) w h)

pub in_writes_right : (S T : List Operation) (w : Write) → Contains (writes T) w → Contains (writes (S ++ T)) w
in_writes_right S T w h = let P : List Write → Type 0 = λ ws. Contains ws w in
    subst P (sym (writes-append S T)) (Contains-append_right (writes S) (writes T) w h)

pub in_writes_either : (S T : List Operation) (w : Write) → Contains (writes (S ++ T)) w → Contains (writes S) w ⊎ Contains (writes T) w
in_writes_either S T w h = let P : List Write → Type 0 = λ ws. Contains ws w in Contains-append_cases (writes S) (writes T) w (subst P (writes-append S T) h)

ids_either : (S T : List Operation) (dot : Dot) → has (ids (writes (S ++ T))) dot ≡ (has (ids (writes S)) dot || has (ids (writes T)) dot)
ids_either S T dot = ap (λ ws. has (ids ws) dot) (writes-append S T) ∙ ap (λ ds. has ds dot) (map-append (λ w. w.id) (writes S) (writes T))
    ∙ has-append (ids (writes S)) (ids (writes T)) dot

observed_either : (S T : List Operation) (dot : Dot) → has (observed (S ++ T)) dot ≡ (has (observed S) dot || has (observed T) dot)
observed_either S T dot = ap (λ ds. has ds dot) (observed-append S T) ∙ has-append (observed S) (observed T) dot

-- what the union wrote at the place, and observed
union_written : (S T : List Operation) (place : Place) (dot : Dot) →
    cond (has (observed (S ++ T)) dot) None (value_under dot (filter (is_on place) (writes (S ++ T))))
    ≡ cond (has (observed S) dot || has (observed T) dot) None
    (best (value_under dot (filter (is_on place) (writes S))) (value_under dot (filter (is_on place) (writes T))))
union_written S T place dot =
    let both : value_under dot (filter (is_on place) (writes (S ++ T))) ≡ best (value_under dot (filter (is_on place) (writes S)))
    (value_under dot (filter (is_on place) (writes T))) =
    ap (λ ws. value_under dot (filter (is_on place) ws)) (writes-append S T)
    ∙ ap (value_under dot) (filter-append (is_on place) (writes S) (writes T))
    ∙ value_under-append dot (filter (is_on place) (writes S)) (filter (is_on place) (writes T)) in
    λ k. cond (observed_either S T dot k) None (both k)

-- a write at the place that the first set has, under a dot that the second wrote: it is the second's too
shared : (S T : List Operation) (place : Place) (dot : Dot) (x : List ℕ)
    → ((v w : Write) → Contains (writes S) v → Contains (writes T) w → v.id ≡ w.id → v ≡ w) →
    value_under dot (filter (is_on place) (writes S)) ≡ Some x → has (ids (writes T)) dot ≡ true → value_under dot (filter (is_on place) (writes T)) ≡ None → ⊥
shared S T place dot x agree e known_there none =
    let found = found_under dot (filter (is_on place) (writes S)) x e in
    let here = from_filter (is_on place) (writes S) found.0 found.1 in
    let there = from_map (λ w. w.id) (writes T) dot (from_has (ids (writes T)) dot known_there) in
    let same : found.0 ≡ there.0 = agree found.0 there.0 here.0 there.1 (found.2 ∙ sym there.2) in
    stands_under dot (filter (is_on place) (writes T)) there.0
    (in_filter (is_on place) (writes T) there.0 there.1 (sym (ap (is_on place) same) ∙ here.1)) there.2 none

regroup : (i j r s : Bool) → ((i || r) || (j || s)) ≡ ((i || j) || (r || s))
regroup true j r s = refl
regroup false true true s = refl
regroup false true false s = refl
regroup false false r s = refl

pub join-states : (S T : List Operation) → NoReuse (S ++ T) → Same (join greater (state S) (state T)) (state (S ++ T))
join-states S T r = record {
  at = λ place dot.
      (λ k. joined greater (at-state S place dot k) (has-state S dot k) (at-state T place dot k) (has-state T dot k))
      ∙ union_at (value_under dot (filter (is_on place) (writes S))) (value_under dot (filter (is_on place) (writes T)))
      (has (ids (writes S)) dot) (has (ids (writes T)) dot) (has (observed S) dot) (has (observed T) dot)
      (λ x e k n. shared S T place dot x (λ v w h g. r.one_write v w (in_writes_left S T v h) (in_writes_right S T w g)) e k n)
      (λ x e k n. shared T S place dot x (λ v w h g. r.one_write v w (in_writes_right S T v h) (in_writes_left S T w g)) e k n)
      ∙ sym (union_written S T place dot)
      ∙ sym (at-state (S ++ T) place dot);
  has = λ dot.
      (λ k. has-state S dot k || has-state T dot k)
      ∙ regroup (has (ids (writes S)) dot) (has (ids (writes T)) dot) (has (observed S) dot) (has (observed T) dot)
      ∙ sym (λ k. ids_either S T dot k || observed_either S T dot k)
      ∙ sym (has-state (S ++ T) dot);
}
