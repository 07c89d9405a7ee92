-- Pages as they are sent, and their one spelling. Of this project. Numbers are big-endian.
--
-- A page is sent for its prefix, with the values that the replica which asks does not have, in the order of the page. Its
-- bytes are the last of its message, so they have no count.
--
-- Example: the page of the key b alone, with w under the dot 2:2 at the empty field, is sent at the prefix 5, 15 with
-- the value w as 02 05 0f, the count 1, the text w, and the 70 bytes of the page.
use Rattle.std.specs.Prelude.{◌≡◌, ℕ, ◌≤◌, ◌<◌, List, [], ◌++◌, length}
use Rattle.std.specs.List.{AllByRecursion}
use Rattle.std.specs.List.Sorted.{IsStrictlySortedBy}
use Rattle.std.specs.Map.{keys_of}
use Rattle.std.specs.Ordering.{nat_cmp}
use Rattle.dots.specs.Bytes.{bytes_cmp}
use Rattle.hash_path.specs.Path.{last_index}
use Rattle.wire_form.specs.Spelling.{counted, AreCounted}
use Rattle.wire_form.specs.Parts.{text, IsText}
use Rattle.wire_form.specs.Prefix.{prefix, IsPrefix}
use Rattle.wire_form.specs.Page.{NamedValue, PageValue, OneKey, Keys, Branch, spelled, ArePartsOf}

-- what a contract sees of a `SentPage`: the prefix, the values, and the page
pub record SentValue : Type 0 where
  pub prefix : List ℕ
  pub values : List (List ℕ)
  pub page : PageValue

abbrev pub sent : SentValue → List ℕ
sent s = prefix s.prefix ++ (counted text s.values ++ spelled s.page)

-- a key has a field at least, and each of its fields a dot at least
abbrev pub IsFilled : NamedValue → Type 0
IsFilled fs = (1 ≤ length fs) × AllByRecursion (λ f. 1 ≤ length f.1) fs

-- Which pages can stand at a depth. One key can at any; several keys, in order and each once, past the last index; and at
-- least one child before it, by ascending index, each being one that a child has there.
abbrev pub CanStand : ℕ → PageValue → Type 0
CanStand depth (OneKey e) = IsFilled e.1
CanStand depth (Keys es) = (depth ≡ 7) × (2 ≤ length es) × AllByRecursion (λ e. IsFilled e.1) es × IsStrictlySortedBy bytes_cmp (keys_of es)
CanStand depth (Branch cs) = (depth < 7) × (1 ≤ length cs) × AllByRecursion (λ c. c.0 ≤ last_index depth) cs × IsStrictlySortedBy nat_cmp (keys_of cs)

-- which values can go with a page: with a branch none, as it names none
abbrev pub CanCarry : PageValue → List (List ℕ) → Type 0
CanCarry (OneKey e) vs = Unit {0}
CanCarry (Keys es) vs = Unit {0}
CanCarry (Branch cs) vs = vs ≡ []

-- which pages can be sent for a prefix with these values
pub record CanBeSent (s : SentValue) : Type 0 where
  pub stands : CanStand (length s.prefix) s.page
  pub carries : CanCarry s.page s.values

pub record IsSent (s : SentValue) : Type 0 where
  pub prefix : IsPrefix s.prefix
  pub values : AreCounted IsText s.values
  pub parts : ArePartsOf s.page
  pub lawful : CanBeSent s
