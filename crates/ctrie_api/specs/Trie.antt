-- What a contract sees of a trie with snapshots, after Prokopec, Bronson, Bagwell and Odersky, "Concurrent Tries with
-- Efficient Non-Blocking Snapshots" (2012); that a read-only trie refuses each write is this project's own.
use Rattle.std.specs.Prelude.{Bool, refl}
use Rattle.std.specs.Coded.{Coded, code_by, coded×, coded_bool, coded_list, coded_ℕ}
use Rattle.std.specs.FinMap as finite
use Rattle.dots.specs.Bytes.{bytes_cmp}

-- a finite map from keys to values, the hash of the keys' paths, and whether the trie is read-only
pub record Trie (H V : Type 0) : Type 0 where
  pub read_only : Bool
  pub hash : H
  pub map : finite.FinMap bytes_cmp V

-- a trie is stored as the triple of its parts
abbrev pub trie_code : {H V : Type 0} → Coded H → Coded V → Coded (Trie H V)
trie_code {H} {V} hash value =
    code_by (Bool × (H × finite.FinMap bytes_cmp V)) (coded× coded_bool (coded× hash (finite.code (coded_list coded_ℕ) value)))
    (λ t. (t.read_only, (t.hash, t.map)))
    (λ p. record { read_only = p.0; hash = p.1.0; map = p.1.1 })
    (λ _. refl)
