-- What a trie stands for: a finite map from keys to values. Its entries stand by path, and the map is that of their
-- keys; the walk of a map is its entries in the order of their paths. Of this project.
use Rattle.std.specs.Prelude.{◌≡◌, ℕ, List, [], ◌∷◌, map}
use Rattle.std.specs.List.{filter}
use Rattle.std.specs.FinMap as finite
use Rattle.dots.specs.Bytes.{bytes_cmp}
use Rattle.hash_path.specs.Word.{word, key_in, begins}

-- the word of a key at the root: its seven indices, its hash, its bytes
abbrev pub path : (List ℕ → ℕ) → List ℕ → List ℕ
path hash_of key = word 7 (hash_of key) key

-- the bytes of a key, of its path
abbrev pub key_of : List ℕ → List ℕ
key_of = key_in 7

-- each entry stands at the path of its key
abbrev pub HashedBy : {V : Type 0} → (List ℕ → ℕ) → List (List ℕ × V) → Type 0
HashedBy hash_of [] = Unit {0}
HashedBy hash_of (e ∷ es) = (e.0 ≡ path hash_of (key_of e.0)) × HashedBy hash_of es

-- entries by word at a node of this height, by key
abbrev pub by_key : {V : Type 0} → ℕ → List (List ℕ × V) → List (List ℕ × V)
by_key height = map (λ e. (key_in height e.0, e.1))

-- the map of the entries at the root
abbrev pub as_map : {V : Type 0} → List (List ℕ × V) → finite.FinMap bytes_cmp V
as_map es = finite.from_entries (by_key 7 es)

-- the entries with the path of each key in the key's place
abbrev pub with_path : {V : Type 0} → (List ℕ → ℕ) → List (List ℕ × V) → List (List ℕ × V)
with_path hash_of [] = []
with_path hash_of (e ∷ es) = (path hash_of e.0, e.1) ∷ with_path hash_of es

-- the entries of a map by path, ascending
abbrev pub by_path : {V : Type 0} → (List ℕ → ℕ) → finite.FinMap bytes_cmp V → List (List ℕ × V)
by_path hash_of m = finite.entries (finite.from_entries {R = bytes_cmp} (with_path hash_of (finite.entries m)))

-- The walk of a map: its keys and values as a walk of the whole trie meets them, at each branch the children by
-- ascending index. So the entries ascend by the sequence of the seven indices of their keys' hashes, the one of the
-- lowest five bits first, and those of equal hashes by key bytes. It is a function of the map and the hash alone, and
-- not of the order that the keys were written in.
abbrev pub walk : {V : Type 0} → (List ℕ → ℕ) → finite.FinMap bytes_cmp V → List (List ℕ × V)
walk hash_of m = by_key 7 (by_path hash_of m)

-- its part under a prefix: the keys whose paths begin with the prefix, with their values, in the order of the walk
abbrev pub walk_under : {V : Type 0} → (List ℕ → ℕ) → List ℕ → finite.FinMap bytes_cmp V → List (List ℕ × V)
walk_under hash_of prefix m = filter (λ e. begins prefix (path hash_of e.0)) (walk hash_of m)
