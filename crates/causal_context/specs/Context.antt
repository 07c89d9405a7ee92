-- Causal contexts, after Almeida, Shoker and Baquero, "Delta State Replicated Data Types" (2018):
-- a causal context is a set of dots, max_i(c) is the greatest number of the name i in c, or 0, and
-- next_i(c) is the dot of the name i and the number above it. They compress such a set to a version vector, which
-- has for each name the number up to which all its dots are there, and a cloud of the other dots.
--
-- A set of dots is read by its test `has`. The crates above read it by that alone, but where they write out the
-- vector and the cloud.
use Rattle.std.specs.Prelude.{◌≡◌, ℕ, ◌+◌, ◌≤◌, nat_le, ◌&&◌, ◌||◌, Bool, false, List, IsTrue, unwrap_or}
use Rattle.std.specs.Ordering.{nat_cmp}
use Rattle.std.specs.List.{list_any}
use Rattle.std.specs.Map.{lookup}
use Rattle.std.specs.BTreeMap.{is_at}
use Rattle.dots.specs.Dot.{DotValue, same_dot}

-- what a contract sees of a `Context`: the entries of the vector by name, and the dots of the cloud in order
pub record ContextValue : Type 0 where
  pub vector : List (ℕ × ℕ)
  pub cloud : List DotValue

-- the entry of the name: the number up to which all its dots are known, or 0 where there is none
abbrev pub known_up_to : List (ℕ × ℕ) → ℕ → ℕ
known_up_to vector name = unwrap_or (lookup (is_at (nat_cmp name)) vector) 0

-- whether the dot is in the cloud
abbrev pub in_cloud : List DotValue → DotValue → Bool
in_cloud cloud dot = list_any (same_dot dot) cloud

-- whether the dot is at or below the entry of its name, or in the cloud. Numbers are from 1: no context has a dot of number 0
abbrev pub is_known : List (ℕ × ℕ) → List DotValue → DotValue → Bool
is_known vector cloud dot = nat_le 1 dot.number && (nat_le dot.number (known_up_to vector dot.name) || in_cloud cloud dot)

-- whether a dot is in the context
unfoldable pub has : ContextValue → DotValue → Bool
has context dot = is_known context.vector context.cloud dot

-- no dot is in the context
abbrev pub HasNone : ContextValue → Type 0
HasNone context = (dot : DotValue) → has context dot ≡ false

-- the two contexts have the same dots
abbrev pub HasSame : ContextValue → ContextValue → Type 0
HasSame context other = (dot : DotValue) → has context dot ≡ has other dot

-- each dot of the other is in the context
abbrev pub Includes : ContextValue → ContextValue → Type 0
Includes context other = (dot : DotValue) → IsTrue (has other dot) → IsTrue (has context dot)

-- n is max_i, the greatest number that the name i has in a set of dots, or 0 where it has none
pub record IsGreatest (i : ℕ) (test : DotValue → Bool) (n : ℕ) : Type 0 where
  pub known : 1 ≤ n → IsTrue (test (record { name = i; number = n }))
  pub bound : (m : ℕ) → IsTrue (test (record { name = i; number = m })) → m ≤ n

-- the dot is next_i
pub record IsNext (i : ℕ) (test : DotValue → Bool) (dot : DotValue) : Type 0 where
  pub name : dot.name ≡ i
  pub greatest : ℕ
  pub is_greatest : IsGreatest i test greatest
  pub number : dot.number ≡ greatest + 1
