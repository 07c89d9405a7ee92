-- Words: what a key is told by below a node of the trie. A word is the indices that are left on the key's path, then
-- its hash, then its bytes; so two keys of one height have one word exactly when their hashes and their bytes are
-- equal. Words are ordered as texts are, by `bytes_cmp`, and at the root that is the order of the walk: by index
-- sequence, then by bytes. Of this project.
use Rattle.std.specs.Prelude.{◌≡◌, ℕ, zero, suc, ◌-◌, Bool, true, false, cond, nat_eq, List, [], ◌∷◌, get_or, drop}
use Rattle.hash_path.specs.Path.{index_in}

-- the index of a hash where so many levels of branches are below
abbrev pub digit : ℕ → ℕ → ℕ
digit below hash = index_in hash (6 - below)

-- the word of a key below a node of this height. A list of keys with equal hashes has the height 0
abbrev pub word : ℕ → ℕ → List ℕ → List ℕ
word zero hash key = hash ∷ key
word (suc below) hash key = digit below hash ∷ word below hash key

-- the hash and the bytes of a word
abbrev pub hash_in : ℕ → List ℕ → ℕ
hash_in height w = get_or w height 0

abbrev pub key_in : ℕ → List ℕ → List ℕ
key_in height w = drop (suc height) w

-- it is the word of a hash and a key
abbrev pub IsWord : ℕ → List ℕ → Type 0
IsWord height w = w ≡ word height (hash_in height w) (key_in height w)

-- each entry stands at such a word
abbrev pub AllWords : {V : Type 0} → ℕ → List (List ℕ × V) → Type 0
AllWords height [] = Unit {0}
AllWords height (e ∷ es) = IsWord height e.0 × AllWords height es

-- whether a word begins with these indices
abbrev pub begins : List ℕ → List ℕ → Bool
begins [] w = true
begins (i ∷ p) w = cond (nat_eq i (get_or w 0 0)) (begins p (drop 1 w)) false
