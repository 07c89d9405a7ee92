-- The dots of the stores of a list, by those of its two halves.
use Rattle.std.proofs.Common.{◌≡◌, Bool, ◌||◌, List, ◌++◌, sym, subst, ⊎_elim}
use Rattle.std.specs.Prelude.{Option, IsSome, IsTrue, Contains}
use Rattle.std.specs.declared.cmp.Ordering.{Ordering}
use Rattle.std.specs.Cmp.{IsTotalOrder}
use Rattle.std.specs.List.{All}
use Rattle.std.proofs.lemmas.List.Elements.{All-append, Contains-append_left, Contains-append_right}
use Rattle.dots.specs.Dot.{DotValue}
use Rattle.ordered_list.proofs.Places.{Ascends}
use Rattle.dot_store.specs.Store.{HoldsDot}
use Rattle.dot_store.specs.Stores.{at_stores}
use Rattle.dot_store.proofs.Gathered.{union_keeps, union_only, union_adds}
use Rattle.dot_store.proofs.Stores.{item_from_held, holds_from_item}

module _ {K S P H : Type 0} (at : S → P → DotValue → Option H) where
  -- a store of the list holds each dot of the set
  abbrev pub OnlyOf : List (K × S) → (DotValue → Bool) → Type 0
  OnlyOf stores dots = (d : DotValue) → IsTrue (dots d) → (key : K) × (store : S) × (place : P) × Contains stores (key, store) × IsSome (at store place d)

  -- each dot that a store of the list holds is in the set
  abbrev pub AllOf : List (K × S) → (DotValue → Bool) → Type 0
  AllOf stores dots = All (λ store. (place : P) (d : DotValue) → IsSome (at store.1 place d) → IsTrue (dots d)) stores

  module _ (front back stores : List (K × S)) (is : stores ≡ front ++ back) (mid more new : DotValue → Bool)
      (both : (d : DotValue) → new d ≡ (mid d || more d)) where
    pub only_both : OnlyOf front mid → OnlyOf back more → OnlyOf stores new
    only_both first second d h =
        ⊎_elim
        (λ was. let there = first d was in (
          there.0,
          there.1,
          there.2,
          subst (λ l. Contains l (there.0, there.1)) (sym is)
              (Contains-append_left front back (there.0, there.1) there.3),
          there.4,
        ))
        (λ came. let there = second d came in (
          there.0,
          there.1,
          there.2,
          subst (λ l. Contains l (there.0, there.1)) (sym is)
              (Contains-append_right front back (there.0, there.1) there.3),
          there.4,
        ))
        (union_only mid more new both {Held = λ x. IsTrue (more x)} (λ x e. e) d h)

    pub all_both : AllOf front mid → AllOf back more → AllOf stores new
    all_both first second =
        subst (λ l. AllOf l new) (sym is)
        (All-append (λ store. (place : P) (d : DotValue) → IsSome (at store.1 place d) → IsTrue (new d)) front back
        (λ k x below place d h. union_keeps mid more new both d (first k x below place d h))
        (λ k x below place d h. union_adds mid more new both {Held = λ y. IsTrue (more y)} (λ y e. e) d (second k x below place d h)))

  -- what is said of the stores is said of the map that has them
  module _ (cmp : K → K → Ordering) (total : IsTotalOrder cmp) (stores : List (K × S)) (dots : DotValue → Bool) where
    pub held_of : Ascends cmp stores → OnlyOf stores dots → (d : DotValue) → IsTrue (dots d) → HoldsDot (at_stores at cmp stores) d
    held_of ascends only d h =
        let there = only d h in
        let place = there.3 in
        holds_from_item at cmp total stores place.0 (there.0, there.1) ascends place.1 (sym place.2) d (there.2, there.4)

    pub all_held : AllOf stores dots → (place : K × P) (d : DotValue) → IsSome (at_stores at cmp stores place d) → IsTrue (dots d)
    all_held each place d h =
        let found = item_from_held at cmp total (λ store. (q : P) (x : DotValue) → IsSome (at store.1 q x) → IsTrue (dots x)) stores each place d h in
        found.1 place.1 d found.2
