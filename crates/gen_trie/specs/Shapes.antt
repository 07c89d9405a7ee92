-- What a node stands for: its height, which is the number of indices that are left on the paths of its keys, and its
-- entries by word. After Prokopec, Bronson, Bagwell and Odersky, "Concurrent Tries with Efficient Non-Blocking
-- Snapshots" (2012); the lists of keys with equal hashes and the canonical form are this project's own.
use Rattle.std.specs.Prelude.{◌≡◌, ℕ, suc, ◌+◌, ◌<◌, ◌≤◌, Bool, true, false, cond, List, [], ◌∷◌, map, length}
use Rattle.std.specs.List.{All}
use Rattle.std.specs.Prelude.{is_some}
use Rattle.std.specs.declared.option.Option.{Option}
use Rattle.std.specs.FinMap.Entries.{put}
use Rattle.std.specs.declared.sync.Arc.{Arc}
use Rattle.dots.specs.Bytes.{bytes_cmp}
use Rattle.hash_path.specs.Word.{word, AllWords}
use Rattle.hash_path.specs.Fan.{fan, bits_of, Rise, place, there}
use Rattle.gen_trie.specs.declared.entry.Entry.{Entry}
use Rattle.gen_trie.specs.declared.node.Shape.{Shape}
use Rattle.gen_trie.specs.declared.node.Shape.TheVariants.{Branch, Keys}
use Rattle.gen_trie.specs.declared.node.Slot.{Slot}
use Rattle.gen_trie.specs.declared.node.Slot.TheVariants.{One, Many}

-- one entry more, where a key was new, and else as many
abbrev pub HasMore : {X : Type 0} → Bool → List X → List X → Type 0
HasMore new before after = length after ≡ cond new (length before + 1) (length before)

module _ {V : Type 0} where
  -- where the child of an index stands among the packed children, or would stand
  pub record IsSeat (i : ℕ) (cs : List (ℕ × List (List ℕ × V))) (count index position : ℕ) (taken : Bool) : Type 0 where
    pub index_is : index ≡ i
    pub bound : i < 32
    pub position_is : position ≡ place i cs
    pub taken_is : taken ≡ there i cs
    pub room : position ≤ count
    pub within : taken ≡ true → position < count

module _ {V A : Type 0} where
  -- an entry at a node of this height
  abbrev pub entry_at : ℕ → Entry V A → List ℕ × V
  entry_at height e = (word height e.hash e.key, e.value)

  -- the entries of a node of this height after an entry was put: an entry of its key is replaced
  abbrev pub with_entry : ℕ → Entry V A → List (List ℕ × V) → List (List ℕ × V)
  with_entry height e = put bytes_cmp (word height e.hash e.key) e.value

  -- a list of keys with equal hashes
  abbrev pub listed : List (Arc (Entry V A) A) → List (List ℕ × V)
  listed = map (λ e. entry_at 0 e.value)

module _ {V : Type 0} where
  -- whether a node is sealed, and its stamp
  abbrev pub is_node_sealed : ℕ × (List (List ℕ × V) × (Bool × ℕ)) → Bool
  is_node_sealed node = node.1.1.0

  abbrev pub node_stamp : ℕ × (List (List ℕ × V) × (Bool × ℕ)) → ℕ
  node_stamp node = node.1.1.1

  -- what a node stands for, whether it is sealed or not, and whatever its stamp
  abbrev pub stands_for : ℕ × (List (List ℕ × V) × (Bool × ℕ)) → ℕ × List (List ℕ × V)
  stands_for node = (node.0, node.1.0)

  -- a node of this generation that keeps no summary
  abbrev pub unsealed : ℕ → ℕ × List (List ℕ × V) → ℕ × (List (List ℕ × V) × (Bool × ℕ))
  unsealed generation node = (node.0, (node.1, (false, generation)))

module _ {V M A : Type 0} where
  -- a child of a branch that has so many levels of branches below
  abbrev pub child : ℕ → Slot V M A → ℕ × List (List ℕ × V)
  child below (One index e) = (index, entry_at below e.value ∷ [])
  child below (Many index n) = (index, n.value.1.0)

  abbrev pub children : ℕ → List (Slot V M A) → List (ℕ × List (List ℕ × V))
  children below = map (child below)

  abbrev pub height_and_entries : Shape V M A → ℕ × List (List ℕ × V)
  height_and_entries (Branch below bitmap slots) = (suc below, fan (children below slots.items))
  height_and_entries (Keys es) = (0, listed es.items)

  -- what a node shows: its height, its entries, whether it is sealed, which is to keep their summary, and its stamp, which is
  -- the generation that wrote it
  abbrev pub shows : ℕ → Option M → Shape V M A → ℕ × (List (List ℕ × V) × (Bool × ℕ))
  shows stamp kept shape = ((height_and_entries shape).0, ((height_and_entries shape).1, (is_some kept, stamp)))

  -- whether a child is sealed. A key alone keeps no summary
  abbrev pub is_sealed : Slot V M A → Bool
  is_sealed (One index e) = true
  is_sealed (Many index n) = is_node_sealed n.value

  abbrev pub IsSealed : Slot V M A → Type 0
  IsSealed slot = is_sealed slot ≡ true

  -- all children of a node are sealed
  abbrev pub AreSealed : Shape V M A → Type 0
  AreSealed (Branch below bitmap slots) = All IsSealed slots.items
  AreSealed (Keys es) = Unit {0}

  -- the stamp of a child. A key alone has none, and is as if it were of the first generation
  abbrev pub stamp_of : Slot V M A → ℕ
  stamp_of (One index e) = 0
  stamp_of (Many index n) = node_stamp n.value

  -- a child is of a generation or of one before it
  abbrev pub IsNoNewer : ℕ → Slot V M A → Type 0
  IsNoNewer generation slot = stamp_of slot ≤ generation

  -- and so are all children of a node
  abbrev pub AreNoNewer : ℕ → Shape V M A → Type 0
  AreNoNewer generation (Branch below bitmap slots) = All (IsNoNewer generation) slots.items
  AreNoNewer generation (Keys es) = Unit {0}

  -- a node below a branch is one level lower, and has two keys or more
  abbrev pub StandsBelow : ℕ → Slot V M A → Type 0
  StandsBelow below (One index e) = Unit {0}
  StandsBelow below (Many index n) = (n.value.0 ≡ below) × (2 ≤ length n.value.1.0)

  pub record IsBranch (below bitmap : ℕ) (slots : List (Slot V M A)) : Type 0 where
    pub height : below ≤ 6
    pub bitmap_is : bitmap ≡ bits_of (children below slots)
    pub rise : Rise 0 (children below slots)
    pub fits : All (StandsBelow below) slots
    pub words : AllWords (suc below) (fan (children below slots))

  abbrev pub IsCanonical : Shape V M A → Type 0
  IsCanonical (Branch below bitmap slots) = IsBranch below bitmap slots.items
  IsCanonical (Keys es) = Unit {0}
