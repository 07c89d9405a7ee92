-- The close of a synchronisation: a store is joined in that was built from a base that had been joined in before. Of this project.
use Rattle.std.specs.Prelude.{◌≡◌, ℕ, Bool, false, List, Option, None, IsTrue, IsSome}
use Rattle.std.specs.FinMap as finite
use Rattle.causal_context.specs.Context.{ContextValue}
use Rattle.causal_join.specs.Causal.{state_of}
use Rattle.dots.specs.Bytes.{bytes_cmp}
use Rattle.dots.specs.Dot.{DotValue}
use Rattle.gen_trie.specs.Shown.{Shown}
use Rattle.op_model.specs.State.{join, joined, IsInside, Same}
use Rattle.trie_map.specs.Keyed.{TrieMapValue, at_keys}
use Rattle.live_map.specs.Index.{PlaceValue, names, has_key}
use Rattle.live_map.specs.Live.{PairValue}

-- the hash and the stores of a trie
abbrev pub stores_of : {Hash S : Type 0} → Shown Hash S → TrieMapValue Hash S
stores_of trie = (trie.hash, trie.map)

-- What was built is the base but at the keys that were touched, and its context knows its dots. The base under what was seen was joined into the pair before.
pub record IsBuiltOn {Hash S P H : Type 0} (at : S → P → DotValue → Option H) (greater : H → H → H) (live : PairValue Hash S) (base : Shown Hash S)
    (seen : ContextValue) (built : Shown Hash S) (touched : Shown Hash (Unit {0})) (context : ContextValue) : Type 0 where
  pub below : Same (join greater (state_of (at_keys at) live) (state_of (at_keys at) (stores_of base, seen))) (state_of (at_keys at) live)
  pub rest : (key : List ℕ) → finite.get touched.map key ≡ None → finite.get built.map key ≡ finite.get base.map key
  pub inside : IsInside (state_of (at_keys at) (stores_of built, context))

-- at a key that is none of these a map holds what its join with another one does
abbrev pub ChangesOnlyAt : {P H : Type 0} → (H → H → H) → (mine : List ℕ × P → DotValue → Option H) (own : DotValue → Bool)
    (yours : List ℕ × P → DotValue → Option H) (theirs : DotValue → Bool)
    → List (List ℕ) → Type 0
ChangesOnlyAt {P} greater mine own yours theirs keys =
    (key : List ℕ) → has_key keys key ≡ false → (place : P) (dot : DotValue)
    → mine (key, place) dot ≡ joined greater (mine (key, place) dot) (own dot) (yours (key, place) dot) (theirs dot)

-- among these keys are those that were touched, and those that are named for a dot that is known now and was not before
pub record IsTouchedSince (places : List PlaceValue) (touched : finite.FinMap bytes_cmp (Unit {0})) (before now : DotValue → Bool)
    (keys : List (List ℕ)) : Type 0 where
  pub own : (key : List ℕ) → IsSome (finite.get touched key) → IsTrue (has_key keys key)
  pub named : (dot : DotValue) (key : List ℕ) → IsTrue (names places dot key) → IsTrue (now dot) → before dot ≡ false → IsTrue (has_key keys key)
