-- The join of a delta at the one key that it can change. Of this project.
use Rattle.std.specs.Prelude.{◌≡◌, ℕ, ◌≤◌, ◌+◌, List, [], ◌∷◌, Bool, false, Option, None, Contains, IsTrue, length}
use Rattle.std.specs.FinMap as finite
use Rattle.dots.specs.Bytes.{bytes_cmp}
use Rattle.dots.specs.Dot.{DotValue}
use Rattle.causal_context.specs.Context.{ContextValue, has, known_up_to}
use Rattle.causal_context.specs.Canonical.{IsCanonical}
use Rattle.causal_context.specs.Growth.{IsOnlyNew}
use Rattle.trie_map.specs.Here.{IsJoinHere, JoinsHere}
use Rattle.trie_map.specs.Keyed.{TrieMapValue}
use Rattle.live_map.specs.Index.{PlaceValue, IsTouched}

-- what was made for a key is the join of what stands there in a map with what a delta holds there, or none where the two are the same
pub record IsMadeAt {S P H : Type 0} (at : S → P → DotValue → Option H) (greater : H → H → H) (mine : finite.FinMap bytes_cmp S) (key : List ℕ)
    (own : DotValue → Bool) (yours : List ℕ × P → DotValue → Option H)
    (theirs : DotValue → Bool) (made : Option S) : Type 0 where
  pub store : S
  pub holds : (place : P) (d : DotValue) → yours (key, place) d ≡ at store place d
  pub joins : IsJoinHere at greater (finite.get mine key) own store theirs made

-- the dot is the one just above an entry that a context has, and the one above it is not known
pub record IsAboveEntry (own : ContextValue) (dot : DotValue) : Type 0 where
  pub entry : 1 ≤ known_up_to own.vector dot.name
  pub next : dot.number ≡ known_up_to own.vector dot.name + 1
  pub last : has own (record { name = dot.name; number = dot.number + 1 }) ≡ false

-- and it is the only one that the context lacks of another
pub record IsRaise (own theirs : ContextValue) (dot : DotValue) : Type 0 where
  pub only : IsOnlyNew (has own) (has theirs) (has theirs) dot
  pub above : IsAboveEntry own dot

-- there is no other dot than this one
abbrev pub HasNoOther : (DotValue → Bool) → DotValue → Type 0
HasNoOther theirs dot = (d : DotValue) → IsTrue (theirs d) → d ≡ dot

-- a delta knows known dots alone, and can change a map at this key alone
pub record IsAgainAt {P H : Type 0} (places : List PlaceValue) (own : DotValue → Bool) (yours : List ℕ × P → DotValue → Option H)
    (theirs : DotValue → Bool) (key : List ℕ) : Type 0 where
  pub known : (d : DotValue) → IsTrue (theirs d) → IsTrue (own d)
  pub touched : IsTouched places own yours theirs (key ∷ [])

-- a delta of these entries brings one dot, above which a context has none, to one key, at which nothing stands in a map
pub record IsAtNewKey {S Hash : Type 0} (mine : TrieMapValue Hash S) (own : ContextValue) (entries : List (List ℕ × S)) (theirs : ContextValue)
    (dot : DotValue) : Type 0 where
  pub canonical : IsCanonical own
  pub only_new : IsOnlyNew (has own) (has theirs) (has theirs) dot
  pub last : has own (record { name = dot.name; number = dot.number + 1 }) ≡ false
  pub only : HasNoOther (has theirs) dot
  pub one : length entries ≡ 1
  pub nothing : (key : List ℕ) (store : S) → Contains entries (key, store) → finite.get mine.1 key ≡ None

-- what stands at a key of a map became its join with what a delta holds there
pub record IsJoinedIn {S P H : Type 0} (at : S → P → DotValue → Option H) (greater : H → H → H) (old new : finite.FinMap bytes_cmp S) (key : List ℕ)
    (own : DotValue → Bool) (yours : List ℕ × P → DotValue → Option H)
    (theirs : DotValue → Bool) : Type 0 where
  pub store : S
  pub holds : (place : P) (d : DotValue) → yours (key, place) d ≡ at store place d
  pub joins : JoinsHere at greater old new key own store theirs
