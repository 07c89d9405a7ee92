-- The operation that a put, a remove or a clear makes, after the delta-mutators of Almeida, Shoker and Baquero,
-- "Delta State Replicated Data Types" (2018): first at a set of operations, then at a state.
-- Example: at {1:1 puts x on a}, {2:1 puts y on a} a put of z on a by replica 1 makes {1:2 puts z on a, having
-- observed 1:1 and 2:1}.
use Rattle.std.specs.Prelude.{◌≡◌, ℕ, ◌+◌, ◌-◌, ◌<◌, ◌==◌, ◌⊎◌, ◌↔◌, max, cond, List, [], ◌∷◌, length, Bool, IsTrue, IsSome, is_some}
use Rattle.std.specs.List.{IsDistinct}
use Rattle.std.specs.Set.{distinct_count}
use Rattle.dots.specs.declared.dot.Dot.{Dot}
use Rattle.dots.specs.Dot.{same_dot}
use Rattle.op_model.specs.Place.{Place, place_of}
use Rattle.op_model.specs.Operation.{Write, Operation, Wrote, Erased, ids, has, known}
use Rattle.op_model.specs.Shown.{shown, shown_within, shown_anywhere}
use Rattle.op_model.specs.Meaning.{MapState}

-- the greatest number of a name among these dots, or 0
abbrev pub greatest_number : ℕ → List Dot → ℕ
greatest_number name [] = 0
greatest_number name (d ∷ ds) = cond (d.name == name) (max d.number (greatest_number name ds)) (greatest_number name ds)

-- the dot of the next write of this name
abbrev pub next : ℕ → List Dot → Dot
next name ds = record { name = name; number = greatest_number name ds + 1 }

-- the dot of a put by this name at a set
abbrev pub dot_at : List Operation → ℕ → Dot
dot_at S name = next name (known S)

-- what a put makes: a write under a new dot, which observed what its place shows
abbrev pub write_at : List Operation → ℕ → Place → List ℕ → Write
write_at S name place value = record { id = dot_at S name; place = place; value = value; over = ids (shown S place) }

abbrev pub put_at : List Operation → ℕ → Place → List ℕ → List Operation
put_at S name place value = Wrote (write_at S name place value) ∷ []

-- an erasure of these dots, and no operation where there are none
abbrev pub erasure : List Dot → List Operation
erasure [] = []
erasure (d ∷ ds) = Erased (d ∷ ds) ∷ []

-- what a remove of a key makes: an erasure of what the key shows, at any of its fields
abbrev pub remove_at : List Operation → List ℕ → List Operation
remove_at S key = erasure (ids (shown_within S key))

-- what a remove of a field makes: an erasure of what the place shows
abbrev pub remove_field_at : List Operation → Place → List Operation
remove_field_at S place = erasure (ids (shown S place))

-- what a clear makes: an erasure of all that is shown
abbrev pub clear_at : List Operation → List Operation
clear_at S = erasure (ids (shown_anywhere S))

-- how many writes a remove of a key observes
abbrev pub removed_at : List Operation → List ℕ → ℕ
removed_at S key = distinct_count same_dot (ids (shown_within S key))

-- how many writes a remove of a field observes
abbrev pub field_removed_at : List Operation → Place → ℕ
field_removed_at S place = distinct_count same_dot (ids (shown S place))

-- how many writes a clear observes
abbrev pub cleared_at : List Operation → ℕ
cleared_at S = distinct_count same_dot (ids (shown_anywhere S))

-- The same at a state, whose context is a test and no list.

-- the dot is that of the name's next write: above each known one, and the first or next to a known one
pub record IsNext (name : ℕ) (knows : Dot → Bool) (dot : Dot) : Type 0 where
  pub named : dot.name ≡ name
  pub above : (d : Dot) → d.name ≡ name → IsTrue (knows d) → d.number < dot.number
  pub least : (dot.number ≡ 1) ⊎ IsTrue (knows (record { name = name; number = dot.number - 1 }))

-- a write is what a put makes at the state
pub record IsPutAt (p : MapState) (name : ℕ) (place : Place) (value : List ℕ) (w : Write) : Type 0 where
  pub id : IsNext name p.has w.id
  pub same_place : w.place ≡ place
  pub same_value : w.value ≡ value
  pub over : (dot : Dot) → has w.over dot ≡ is_some (p.at place dot)

-- these dots are just what a remove of a field observes at the state
abbrev pub IsFieldRemoveAt : MapState → Place → List Dot → Type 0
IsFieldRemoveAt p place over = (dot : Dot) → has over dot ≡ is_some (p.at place dot)

-- the dot stands at some field of the key, and at some place
abbrev pub IsWithin : MapState → List ℕ → Dot → Type 0
IsWithin p key dot = (field : List ℕ) × IsSome (p.at (place_of key field) dot)

abbrev pub IsAnywhere : MapState → Dot → Type 0
IsAnywhere p dot = (place : Place) × IsSome (p.at place dot)

-- these dots are just what a remove of a key observes at the state
abbrev pub IsRemoveAt : MapState → List ℕ → List Dot → Type 0
IsRemoveAt p key over = (dot : Dot) → IsTrue (has over dot) ↔ IsWithin p key dot

-- these dots are just what a clear observes at the state
abbrev pub IsClearAt : MapState → List Dot → Type 0
IsClearAt p over = (dot : Dot) → IsTrue (has over dot) ↔ IsAnywhere p dot

-- just so many dots are as P says
pub record Counts (P : Dot → Type 0) (n : ℕ) : Type 0 where
  pub dots : List Dot
  pub apart : IsDistinct same_dot dots
  pub just : (dot : Dot) → IsTrue (has dots dot) ↔ P dot
  pub number : n ≡ length dots
