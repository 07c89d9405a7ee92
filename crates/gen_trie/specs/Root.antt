-- What the root of a trie stands for. It is empty, one entry, or a node of two entries or more. Of this project.
use Rattle.std.specs.Prelude.{◌≡◌, ℕ, List, [], length, Bool, true}
use Rattle.std.specs.Prelude.{T}
use Rattle.std.specs.declared.option.Option.{Option}
use Rattle.std.specs.declared.option.Option.TheVariants.{None, Some}
use Rattle.std.specs.FinMap.Entries.{is_sorted}
use Rattle.dots.specs.Bytes.{bytes_cmp}
use Rattle.hash_path.specs.Map.{HashedBy}
use Rattle.gen_trie.specs.declared.node.Slot.{Slot}
use Rattle.gen_trie.specs.Shapes.{child, is_sealed, stamp_of, StandsBelow}

module _ {V M A : Type 0} where
  -- the entries by path. The root's slot has all seven levels of branches below it, and its index is not looked at
  abbrev pub root_entries : Option (Slot V M A) → List (List ℕ × V)
  root_entries None = []
  root_entries (Some slot) = (child 7 slot).1

  -- whether each node keeps the summary of its entries: the root's does only where each below it does
  abbrev pub root_sealed : Option (Slot V M A) → Bool
  root_sealed None = true
  root_sealed (Some slot) = is_sealed slot

  -- the stamp of the root, above which no node's is
  abbrev pub root_stamp : Option (Slot V M A) → ℕ
  root_stamp None = 0
  root_stamp (Some slot) = stamp_of slot

  abbrev pub RootStands : Option (Slot V M A) → Type 0
  RootStands None = Unit {0}
  RootStands (Some slot) = StandsBelow 7 slot

  -- the root has its form, its entries ascend by path, and there are so many
  pub record IsRoot (root : Option (Slot V M A)) (count : ℕ) : Type 0 where
    pub stands : RootStands root
    pub sorted : T (is_sorted bytes_cmp (root_entries root))
    pub counted : count ≡ length (root_entries root)

  -- and each stands at the path of its key
  pub record IsTrie (hash_of : List ℕ → ℕ) (root : Option (Slot V M A)) (count : ℕ) : Type 0 where
    pub root_is : IsRoot root count
    pub hashed : HashedBy hash_of (root_entries root)
