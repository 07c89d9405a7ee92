-- The keys of ordered entries are in strict order.
use Rattle.std.proofs.Common.{◌≡◌, ℕ, Bool, true, false, List, [], ◌∷◌, refl}
use Rattle.std.specs.Prelude.{◌&&◌, T}
use Rattle.std.specs.declared.cmp.Ordering.{Ordering}
use Rattle.std.specs.declared.cmp.Ordering.TheVariants.{Less, Equal, Greater}
use Rattle.std.specs.FinMap.Entries.{is_sorted, below_all}
use Rattle.std.specs.List.{AllByRecursion}
use Rattle.std.specs.List.Sorted.{IsStrictlySortedBy}
use Rattle.std.specs.Map.{keys_of}
use Rattle.std.specs.Ordering.{is_lt}
use Rattle.dots.specs.Bytes.{bytes_cmp}

pub less_from : (o : Ordering) → T (is_lt o) → o ≡ Less
less_from Less h = refl
less_from Equal h = absurd h
less_from Greater h = absurd h

front : (a b : Bool) → T (a && b) → T a
front true b h = tt
front false b h = h

back : (a b : Bool) → T (a && b) → T b
back true b h = h
back false b h = absurd h

module _ {V : Type 0} where
  -- of the entries that stand above a key, and of ordered ones, the first and the others
  pub first_below : (key : List ℕ) (e : List ℕ × V) (es : List (List ℕ × V)) → T (below_all bytes_cmp key (e ∷ es)) → T (is_lt (bytes_cmp key e.0))
  first_below key e es = front (is_lt (bytes_cmp key e.0)) (below_all bytes_cmp key es)

  pub rest_below : (key : List ℕ) (e : List ℕ × V) (es : List (List ℕ × V)) → T (below_all bytes_cmp key (e ∷ es)) → T (below_all bytes_cmp key es)
  rest_below key e es = back (is_lt (bytes_cmp key e.0)) (below_all bytes_cmp key es)

  pub first_sorted : (e : List ℕ × V) (es : List (List ℕ × V)) → T (is_sorted bytes_cmp (e ∷ es)) → T (below_all bytes_cmp e.0 es)
  first_sorted e es = front (below_all bytes_cmp e.0 es) (is_sorted bytes_cmp es)

  pub rest_sorted : (e : List ℕ × V) (es : List (List ℕ × V)) → T (is_sorted bytes_cmp (e ∷ es)) → T (is_sorted bytes_cmp es)
  rest_sorted e es = back (below_all bytes_cmp e.0 es) (is_sorted bytes_cmp es)

  all_less : (key : List ℕ) (es : List (List ℕ × V)) → T (below_all bytes_cmp key es) → AllByRecursion (λ other. bytes_cmp key other ≡ Less) (keys_of es)
  all_less key [] below = tt
  all_less key (e ∷ es) below = (less_from (bytes_cmp key e.0) (first_below key e es below), all_less key es (rest_below key e es below))

  pub sorted_keys : (es : List (List ℕ × V)) → T (is_sorted bytes_cmp es) → IsStrictlySortedBy bytes_cmp (keys_of es)
  unfolding IsStrictlySortedBy
  sorted_keys [] sorted = tt
  sorted_keys (e ∷ es) sorted = (all_less e.0 es (first_sorted e es sorted), sorted_keys es (rest_sorted e es sorted))
