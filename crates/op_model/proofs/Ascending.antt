-- Ascending lists of keys or values: `ascending` gives one, of the same members, and there is only one of given members.
use Rattle.std.specs.declared.cmp.Ordering.{Ordering}
use Rattle.std.specs.declared.cmp.Ordering.TheVariants.{Less, Equal, Greater}
use Rattle.std.specs.Cmp.Lexicographic.{nat_list_cmp_total}
use Rattle.std.specs.Ordering.{ordering_reverse}
use Rattle.std.specs.Prelude.{Contains}
use Rattle.std.proofs.Common.{◌≡◌, ℕ, zero, suc, ◌<◌, length, get_or, List, [], ◌∷◌, refl, sym, ap, ◌∙◌, subst, ◌⊎◌, inl, inr, arith}
use Rattle.std.proofs.lemmas.List.Elements.{Contains-get_or}
use Rattle.dots.specs.Bytes.{bytes_cmp}
use Rattle.op_model.specs.Shown.{placed, with_one, ascending, IsAscending}
use Rattle.op_model.proofs.Greater.{bytes_exact}
use Rattle.op_model.proofs.Members.{nothing_in, at_head, in_tail, head_or_tail, at_same}

-- x is below each of these
pub record IsBelow (x : List ℕ) (xs : List (List ℕ)) : Type 0 where
  pub below : (y : List ℕ) → Contains xs y → bytes_cmp x y ≡ Less

pub head_below : (x : List ℕ) (xs : List (List ℕ)) → IsAscending (x ∷ xs) → IsBelow x xs
head_below x xs h = record {
  below = λ y (k, l, e). subst (λ z. bytes_cmp x z ≡ Less) e (h 0 (suc k) y (omega arith) (omega arith));
}

pub tail_ascends : (x : List ℕ) (xs : List (List ℕ)) → IsAscending (x ∷ xs) → IsAscending xs
tail_ascends x xs h = λ i j d l k. h (suc i) (suc j) d (omega arith) (omega arith)

pub ascends : (x : List ℕ) (xs : List (List ℕ)) → IsBelow x xs → IsAscending xs → IsAscending (x ∷ xs)
ascends x xs b h = by
  where
    by : IsAscending (x ∷ xs)
    by zero zero d l k = absurd (omega arith)
    by zero (suc j) d l k = let inside : j < length xs = omega arith in b.below (get_or xs j d) (Contains-get_or xs j d inside)
    by (suc i) zero d l k = absurd (omega arith)
    by (suc i) (suc j) d l k = h i j d (omega arith) (omega arith)

pub nothing_ascends : IsAscending []
nothing_ascends = λ i j d l k. absurd (omega arith)

less_less : (x y : List ℕ) → bytes_cmp x y ≡ Less → bytes_cmp y x ≡ Less → ⊥
less_less x y e f = let back : Less ≡ Greater = sym e ∙ nat_list_cmp_total.antisymm x y ∙ ap ordering_reverse f in cc

less_self : (x : List ℕ) → bytes_cmp x x ≡ Less → ⊥
less_self x e = less_less x x e e

-- the members of a list with x in it
pub from_placed : (o : Ordering) (x y : List ℕ) (ys among : List (List ℕ)) (z : List ℕ) → ((z : List ℕ) → Contains among z → (z ≡ x) ⊎ Contains ys z) →
    Contains (placed o x y ys among) z → (z ≡ x) ⊎ Contains (y ∷ ys) z
from_placed Less x y ys among z f h = elim (head_or_tail x (y ∷ ys) z h) [ inl e ↦ inl (sym e) | inr t ↦ inr t ]
from_placed Equal x y ys among z f h = inr h
from_placed Greater x y ys among z f h =
    elim (head_or_tail y among z h) [
      | inl e ↦ inr (at_same (y ∷ ys) y z e (at_head y ys))
      | inr t ↦ elim (f z t) [ inl e ↦ inl e | inr u ↦ inr (in_tail y ys z u) ]
    ]

pub from_with_one : (x : List ℕ) (ys : List (List ℕ)) (z : List ℕ) → Contains (with_one x ys) z → (z ≡ x) ⊎ Contains ys z
from_with_one x [] z h = elim (head_or_tail x [] z h) [ inl e ↦ inl (sym e) | inr t ↦ nothing_in z t ]
from_with_one x (y ∷ ys) z h = from_placed (bytes_cmp x y) x y ys (with_one x ys) z (from_with_one x ys) h

in_placed : (o : Ordering) (x y : List ℕ) (ys among : List (List ℕ)) → bytes_cmp x y ≡ o → Contains among x
    → ((z : List ℕ) → Contains ys z → Contains among z) →
    Contains (placed o x y ys among) x × ((z : List ℕ) → Contains (y ∷ ys) z → Contains (placed o x y ys among) z)
in_placed Less x y ys among e h f = (at_head x (y ∷ ys), λ z t. in_tail x (y ∷ ys) z t)
in_placed Equal x y ys among e h f = (at_same (y ∷ ys) y x (sym (bytes_exact x y e)) (at_head y ys), λ z t. t)
in_placed Greater x y ys among e h f =
    (in_tail y among x h, λ z t. elim (head_or_tail y ys z t) [ inl g ↦ at_same (y ∷ among) y z g (at_head y among) | inr u ↦ in_tail y among z (f z u) ])

pub in_with_one : (x : List ℕ) (ys : List (List ℕ)) → Contains (with_one x ys) x × ((z : List ℕ) → Contains ys z → Contains (with_one x ys) z)
in_with_one x [] = (at_head x [], λ z t. nothing_in z t)
in_with_one x (y ∷ ys) = let rest = in_with_one x ys in in_placed (bytes_cmp x y) x y ys (with_one x ys) refl rest.0 rest.1

placed_ascends : (o : Ordering) (x y : List ℕ) (ys : List (List ℕ)) → bytes_cmp x y ≡ o → IsAscending (y ∷ ys) → IsAscending (with_one x ys)
    → IsAscending (placed o x y ys (with_one x ys))
placed_ascends Less x y ys e h g =
    ascends x (y ∷ ys) (record {
      below = λ z t.
          elim (head_or_tail y ys z t) [
            | inl f ↦ sym (ap (bytes_cmp x) f) ∙ e
            | inr u ↦ nat_list_cmp_total.trans x y z e ((head_below y ys h).below z u)
          ];
    }) h
placed_ascends Equal x y ys e h g = h
placed_ascends Greater x y ys e h g =
    ascends y (with_one x ys) (record {
      below = λ z t.
          elim (from_with_one x ys z t) [
            | inl f ↦ ap (bytes_cmp y) f ∙ nat_list_cmp_total.antisymm y x ∙ ap ordering_reverse e
            | inr u ↦ (head_below y ys h).below z u
          ];
    }) g

pub with_one-ascends : (x : List ℕ) (ys : List (List ℕ)) → IsAscending ys → IsAscending (with_one x ys)
with_one-ascends x [] h = ascends x [] (record { below = λ y t. nothing_in y t }) h
with_one-ascends x (y ∷ ys) h = placed_ascends (bytes_cmp x y) x y ys refl h (with_one-ascends x ys (tail_ascends y ys h))

pub ascending-ascends : (xs : List (List ℕ)) → IsAscending (ascending xs)
ascending-ascends [] = nothing_ascends
ascending-ascends (x ∷ xs) = with_one-ascends x (ascending xs) (ascending-ascends xs)

pub in_ascending : (xs : List (List ℕ)) (z : List ℕ) → Contains xs z → Contains (ascending xs) z
in_ascending [] z h = h
in_ascending (x ∷ xs) z h =
    let there = in_with_one x (ascending xs) in
    elim (head_or_tail x xs z h) [ inl e ↦ at_same (with_one x (ascending xs)) x z e there.0 | inr t ↦ there.1 z (in_ascending xs z t) ]

pub from_ascending : (xs : List (List ℕ)) (z : List ℕ) → Contains (ascending xs) z → Contains xs z
from_ascending [] z h = h
from_ascending (x ∷ xs) z h =
    elim (from_with_one x (ascending xs) z h) [ inl e ↦ at_same (x ∷ xs) x z (sym e) (at_head x xs) | inr t ↦ in_tail x xs z (from_ascending xs z t) ]

one_head : (x y : List ℕ) (xs ys : List (List ℕ)) → IsAscending (x ∷ xs) → IsAscending (y ∷ ys) → Contains (y ∷ ys) x → Contains (x ∷ xs) y → x ≡ y
one_head x y xs ys h g f b =
    elim (head_or_tail y ys x f) [
      | inl e ↦ sym e
      | inr t ↦ elim (head_or_tail x xs y b) [
        | inl e ↦ e
        | inr u ↦ absurd (less_less x y ((head_below x xs h).below y u) ((head_below y ys g).below x t))
      ]
    ]

-- the members of a tail, where the heads are one
tails : (x y : List ℕ) (xs ys : List (List ℕ)) → IsAscending (x ∷ xs) → x ≡ y → ((z : List ℕ) → Contains (x ∷ xs) z → Contains (y ∷ ys) z) → (z : List ℕ)
    → Contains xs z → Contains ys z
tails x y xs ys h same f z t =
    elim (head_or_tail y ys z (f z (in_tail x xs z t))) [
      | inl e ↦ absurd (less_self x (ap (bytes_cmp x) (same ∙ e) ∙ (head_below x xs h).below z t))
      | inr u ↦ u
    ]

-- two ascending lists of the same members are one
pub one_ascending : (xs ys : List (List ℕ)) → IsAscending xs → IsAscending ys → ((z : List ℕ) → Contains xs z → Contains ys z)
    → ((z : List ℕ) → Contains ys z → Contains xs z) → xs ≡ ys
one_ascending [] [] h g f b = refl
one_ascending [] (y ∷ ys) h g f b = nothing_in y (b y (at_head y ys))
one_ascending (x ∷ xs) [] h g f b = nothing_in x (f x (at_head x xs))
one_ascending (x ∷ xs) (y ∷ ys) h g f b =
    let same = one_head x y xs ys h g (f x (at_head x xs)) (b y (at_head y ys)) in
    let rest = one_ascending xs ys (tail_ascends x xs h) (tail_ascends y ys g) (tails x y xs ys h same f) (tails y x ys xs g (sym same) b) in
    λ i. same i ∷ rest i
