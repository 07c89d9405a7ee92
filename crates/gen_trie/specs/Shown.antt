-- What a contract sees of a trie, and of a frozen map. Of this project.
use Rattle.std.specs.Prelude.{Bool, ℕ, ◌+◌, ◌-◌, ◌^◌, min, refl}
use Rattle.std.specs.Coded.{Coded, code_by, coded×, coded_bool, coded_list, coded_ℕ}
use Rattle.std.specs.FinMap as finite
use Rattle.std.specs.declared.option.Option.{Option}
use Rattle.dots.specs.Bytes.{bytes_cmp}
use Rattle.hash_path.specs.Map.{as_map}
use Rattle.gen_trie.specs.declared.node.Slot.{Slot}
use Rattle.gen_trie.specs.Root.{root_entries, root_sealed}

-- the hash of the keys' paths, a finite map from keys to values, the generation, which each node that is written is
-- stamped with: a node of another one is never written in place, and whether the map is sealed: each node keeps the summary
-- of its entries
pub record Shown (H V : Type 0) : Type 0 where
  pub hash : H
  pub map : finite.FinMap bytes_cmp V
  pub generation : ℕ
  pub sealed : Bool

-- it is stored as its parts
abbrev pub shown_code : {H V : Type 0} → Coded H → Coded V → Coded (Shown H V)
shown_code {H} {V} hash value =
    code_by (H × (finite.FinMap bytes_cmp V × (ℕ × Bool))) (coded× hash (coded× (finite.code (coded_list coded_ℕ) value) (coded× coded_ℕ coded_bool)))
    (λ s. (s.hash, (s.map, (s.generation, s.sealed))))
    (λ p. record { hash = p.0; map = p.1.0; generation = p.1.1.0; sealed = p.1.1.1 })
    (λ _. refl)

abbrev pub trie_shown : {H V : Type 0} → H → finite.FinMap bytes_cmp V → ℕ → Bool → Shown H V
trie_shown hash map generation sealed = record { hash = hash; map = map; generation = generation; sealed = sealed }

-- what the parts of a trie are seen as
abbrev pub shown_of : {H V M A : Type 0} → H → Option (Slot V M A) → ℕ → Shown H V
shown_of hash root generation = trie_shown hash (as_map (root_entries root)) generation (root_sealed root)

-- the generation after one: the last, 2^64 - 1, stays
abbrev pub generation_after : ℕ → ℕ
generation_after generation = min (generation + 1) (2 ^ 64 - 1)
