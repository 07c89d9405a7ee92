-- The one form in which a set of dots is kept as a vector and a cloud. The compression is that of Almeida, Shoker
-- and Baquero (2018); that it is always carried as far as it goes is this project's own choice.
use Rattle.std.specs.Prelude.{◌≡◌, ◌≢◌, ℕ, ◌+◌, ◌^◌, ◌<◌, List, IsTrue, Some}
use Rattle.std.specs.Ordering.{nat_cmp}
use Rattle.std.specs.List.Sorted.{IsStrictlySortedBy}
use Rattle.std.specs.Map.{lookup, keys_of}
use Rattle.std.specs.BTreeMap.{is_at}
use Rattle.dots.specs.Dot.{DotValue}
use Rattle.causal_context.specs.Dots.{dot_cmp}
use Rattle.causal_context.specs.Context.{ContextValue, known_up_to, in_cloud, HasSame}

-- no entry of the vector is 0
abbrev pub HasNoZero : List (ℕ × ℕ) → Type 0
HasNoZero vector = (name : ℕ) → lookup (is_at (nat_cmp name)) vector ≢ Some 0

-- no dot of the cloud is at or below the entry of its name, or just above it
abbrev pub IsApart : List (ℕ × ℕ) → List DotValue → Type 0
IsApart vector cloud = (dot : DotValue) → IsTrue (in_cloud cloud dot) → known_up_to vector dot.name + 1 < dot.number

-- each number in the cloud is one that a dot can have
abbrev pub IsBounded : List DotValue → Type 0
IsBounded cloud = (dot : DotValue) → IsTrue (in_cloud cloud dot) → dot.number < 2 ^ 64

-- the vector and the cloud are the canonical form of their dots
pub record IsCanonical (context : ContextValue) : Type 0 where
  pub names_ascend : IsStrictlySortedBy nat_cmp (keys_of context.vector)
  pub dots_ascend : IsStrictlySortedBy dot_cmp context.cloud
  pub no_zero : HasNoZero context.vector
  pub apart : IsApart context.vector context.cloud
  pub bounded : IsBounded context.cloud

-- equal sets have equal representation
abbrev pub EqualSetsAreOne : Type 0
EqualSetsAreOne = (a b : ContextValue) → IsCanonical a → IsCanonical b → HasSame a b → a ≡ b
