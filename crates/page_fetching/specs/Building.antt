-- What an asker has built so far of its peer's map: its own map at first, and changed at the keys of the pages that it took. Of this
-- project.
use Rattle.std.specs.Prelude.{◌≡◌, ℕ, Bool, ◌&&◌, not, nat_eq, List, [], ◌∷◌, length, get_or, None, is_some, cond, IsSome, refl}
use Rattle.std.specs.List.{list_any}
use Rattle.std.specs.Coded.{Coded, code_by, coded×, coded_list, coded_ℕ}
use base.Stored.{coded_unit}
use Rattle.std.specs.FinMap as finite
use Rattle.dots.specs.Bytes.{bytes_cmp}
use Rattle.causal_join.specs.Code.{fields_code}
use Rattle.hash_path.specs.Word.{begins}
use Rattle.hash_path.specs.Map.{path}
use Rattle.sync_model.specs.Differ.{Held}

-- a set of keys
abbrev pub KeySet : Type 0
KeySet = finite.FinMap bytes_cmp (Unit {0})

-- the hash of the keys' paths, what is built, and the keys that were touched
pub record BuiltValue (Hash : Type 0) : Type 0 where
  pub hash : Hash
  pub entries : Held
  pub touched : KeySet

-- what is built is stored as the triple of its parts
abbrev pub built_code : {Hash : Type 0} → Coded Hash → Coded (BuiltValue Hash)
built_code {Hash} hash =
    code_by (Hash × (Held × KeySet)) (coded× hash (coded× (finite.code (coded_list coded_ℕ) fields_code) (finite.code (coded_list coded_ℕ) coded_unit)))
    (λ b. (b.hash, (b.entries, b.touched)))
    (λ p. record { hash = p.0; entries = p.1.0; touched = p.1.1 })
    (λ _. refl)

-- The second goes on from the first: touched keys stay touched, and what stands at a key that is not is as it was
pub record GoesOn {Hash : Type 0} (old new : BuiltValue Hash) : Type 0 where
  pub hash : new.hash ≡ old.hash
  pub touched : (key : List ℕ) → IsSome (finite.get old.touched key) → IsSome (finite.get new.touched key)
  pub rest : (key : List ℕ) → finite.get new.touched key ≡ None → finite.get new.entries key ≡ finite.get old.entries key

-- these are removed, one after the other
abbrev pub remove_all : {V : Type 0} → List (List ℕ × V) → Held → Held
remove_all [] m = m
remove_all (e ∷ es) m = remove_all es (finite.remove m e.0)

-- of the keys that the first map has, those that pass the test are gone
abbrev pub GoesWhere : (List ℕ → Bool) → Held → Held → Held → Type 0
GoesWhere goes before old new = (key : List ℕ) → finite.get new key ≡ cond (goes key && is_some (finite.get before key)) None (finite.get old key)

-- the next index of a key's path after a prefix
abbrev pub next_index : (List ℕ → ℕ) → List ℕ → List ℕ → ℕ
next_index hash_of p key = get_or (path hash_of key) (length p) 0

-- a key under a prefix whose branch, with these children, does not list it
abbrev pub is_unlisted : (List ℕ → ℕ) → List ℕ → List (ℕ × List ℕ) → List ℕ → Bool
is_unlisted hash_of p children key = begins p (path hash_of key) && not (list_any (λ c. nat_eq c.0 (next_index hash_of p key)) children)
