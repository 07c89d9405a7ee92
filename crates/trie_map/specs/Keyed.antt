-- What a map from keys to dot stores holds that is kept as a trie: what a `DotMap` of the same stores holds, after Almeida,
-- Shoker and Baquero, "Delta State Replicated Data Types" (2018).
use Rattle.std.specs.Prelude.{◌≡◌, ℕ, List, Option, Some}
use Rattle.std.specs.FinMap as finite
use Rattle.dots.specs.Bytes.{bytes_cmp}
use Rattle.dots.specs.Dot.{DotValue}
use Rattle.dot_store.specs.Store.{HasNothing}
use Rattle.dot_store.specs.Stores.{held_by}

-- what a contract sees of such a map: the hash of the keys' paths, and the store of each key
abbrev pub TrieMapValue : Type 0 → Type 0 → Type 0
TrieMapValue Hash S = Hash × finite.FinMap bytes_cmp S

module _ {S P H : Type 0} (at : S → P → DotValue → Option H) where
  -- it holds at a key and a place what the key's store holds at that place
  unfoldable pub at_keys : {Hash : Type 0} → TrieMapValue Hash S → List ℕ × P → DotValue → Option H
  at_keys map place dot = held_by at (finite.get map.1 place.0) place.1 dot

  -- no key has an empty store
  abbrev pub NoStoreIsEmpty : finite.FinMap bytes_cmp S → Type 0
  NoStoreIsEmpty map = (key : List ℕ) (store : S) → finite.get map key ≡ Some store → ¬ HasNothing (at store)

-- each store has the form of its kind
abbrev pub EachIsCanonical : {S : Type 0} → (S → Type 0) → finite.FinMap bytes_cmp S → Type 0
EachIsCanonical canonical map = (key : List ℕ) (store : _) → finite.get map key ≡ Some store → canonical store
