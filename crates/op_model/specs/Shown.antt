-- What a set of operations shows, after the observed-remove map of multi-value registers of Almeida, Shoker and
-- Baquero, "Delta State Replicated Data Types" (2018): the writes that no operation of the set had
-- observed.
-- Example: of {1:1 puts x on a}, {2:1 puts y on a, having observed 1:1} the key a shows the second alone. Where
-- neither write had observed the other both are shown, and the values of a are x and y.
use Rattle.std.specs.Prelude.{◌≡◌, ℕ, List, [], ◌∷◌, map, filter, length, AllPairs, Contains, IsFalse, Bool, true, not, ◌&&◌}
use Rattle.std.specs.declared.cmp.Ordering.{Ordering}
use Rattle.std.specs.declared.cmp.Ordering.TheVariants.{Less, Equal, Greater}
use Rattle.dots.specs.Bytes.{bytes_cmp}
use Rattle.op_model.specs.Place.{Place, same_bytes, same_place}
use Rattle.op_model.specs.Operation.{Write, Operation, Wrote, writes, observed, over_of, has}

-- whether the write is one at this place, at any field of this key, and anywhere
abbrev pub is_on : Place → Write → Bool
is_on place w = same_place w.place place

abbrev pub is_within : List ℕ → Write → Bool
is_within key w = same_bytes w.place.key key

abbrev pub is_anywhere : Write → Bool
is_anywhere w = true

-- the writes that pass the test and that no operation of the set had observed
abbrev pub shown_where : List Operation → (Write → Bool) → List Write
shown_where S test = filter (λ w. test w && not (has (observed S) w.id)) (writes S)

-- the writes shown at a place
abbrev pub shown : List Operation → Place → List Write
shown S place = shown_where S (is_on place)

-- the writes shown at any field of a key
abbrev pub shown_within : List Operation → List ℕ → List Write
shown_within S key = shown_where S (is_within key)

-- the writes shown anywhere
abbrev pub shown_anywhere : List Operation → List Write
shown_anywhere S = shown_where S is_anywhere

-- The same in words: the write is one of the set, is at the place, and no operation of the set had observed it.
pub record IsShown (S : List Operation) (place : Place) (w : Write) : Type 0 where
  pub written : Contains S (Wrote w)
  pub there : w.place ≡ place
  pub unobserved : (o : Operation) → Contains S o → IsFalse (has (over_of o) w.id)

-- the list of these, ascending by bytes and each once, with x at its place: x stands to y as the order says
abbrev pub placed : Ordering → List ℕ → List ℕ → List (List ℕ) → List (List ℕ) → List (List ℕ)
placed Less x y ys among = x ∷ y ∷ ys
placed Equal x y ys among = y ∷ ys
placed Greater x y ys among = y ∷ among

-- an ascending list with x in it, once
abbrev pub with_one : List ℕ → List (List ℕ) → List (List ℕ)
with_one x [] = x ∷ []
with_one x (y ∷ ys) = placed (bytes_cmp x y) x y ys (with_one x ys)

-- these, ascending by bytes, each once
abbrev pub ascending : List (List ℕ) → List (List ℕ)
ascending [] = []
ascending (x ∷ xs) = with_one x (ascending xs)

-- whether each is below the next by bytes, so that none is there twice
abbrev pub IsAscending : List (List ℕ) → Type 0
IsAscending xs = AllPairs (λ x y. bytes_cmp x y ≡ Less) xs

-- the values that a place shows
abbrev pub values : List Operation → Place → List (List ℕ)
values S place = ascending (map (λ w. w.value) (shown S place))

-- the values that a key shows, over all its fields
abbrev pub values_of_key : List Operation → List ℕ → List (List ℕ)
values_of_key S key = ascending (map (λ w. w.value) (shown_within S key))

-- the fields of a key that show a value
abbrev pub fields : List Operation → List ℕ → List (List ℕ)
fields S key = ascending (map (λ w. w.place.field) (shown_within S key))

-- the keys that show a value, at some field
abbrev pub keys : List Operation → List (List ℕ)
keys S = ascending (map (λ w. w.place.key) (shown_anywhere S))

-- the number of keys that show a value
abbrev pub size : List Operation → ℕ
size S = length (keys S)
