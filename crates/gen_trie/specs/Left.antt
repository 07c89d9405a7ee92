-- What an iterator has left of the walk: of a list of keys with equal hashes, of the branches on the way down to it, the
-- lowest first, and before the first call of the root, or of what stands under a prefix. Of this project.
use Rattle.std.specs.Prelude.{◌≡◌, ℕ, zero, suc, ◌≤◌, List, [], ◌∷◌, ◌++◌}
use Rattle.std.specs.Borrow.{Bor}
use Rattle.std.specs.List.{All}
use Rattle.std.specs.declared.option.Option.{Option}
use Rattle.std.specs.declared.option.Option.TheVariants.{None, Some}
use Rattle.hash_path.specs.Map.{by_key}
use Rattle.gen_trie.specs.declared.entry.Entry.{Entry}
use Rattle.gen_trie.specs.declared.iter.Rest.{Rest}
use Rattle.gen_trie.specs.declared.node.Slot.{Slot}
use Rattle.gen_trie.specs.Shapes.{child, listed, StandsBelow}

module _ {V A : Type 0} where
  -- the key and the value of an entry
  abbrev pub item : Entry V A → List ℕ × V
  item e = (e.key, e.value)

module _ {V M A : Type 0} where
  -- the entries of children of a branch that has so many levels of branches below
  abbrev pub slots_left : ℕ → List (Slot V M A) → List (List ℕ × V)
  slots_left below [] = []
  slots_left below (slot ∷ slots) = by_key below (child below slot).1 ++ slots_left below slots

  -- the entries of what is left of such branches, from this number of levels on
  abbrev pub levels_left : ℕ → List (Bor (List (Slot V M A))) → List (List ℕ × V)
  levels_left below [] = []
  levels_left below (slots ∷ levels) = slots_left below slots.now ++ levels_left (suc below) levels

  abbrev pub root_left : ℕ → Option (Bor (Slot V M A)) → List (List ℕ × V)
  root_left height None = []
  root_left height (Some slot) = by_key height (child height slot.now).1

  abbrev pub left : Rest V M A → List (List ℕ × V)
  left rest = by_key 0 (listed rest.list.now) ++ (levels_left 0 rest.levels ++ root_left rest.height rest.root)

  -- each child fits where it stands
  abbrev pub LevelsStand : ℕ → List (Bor (List (Slot V M A))) → Type 0
  LevelsStand below [] = Unit {0}
  LevelsStand below (slots ∷ levels) = All (StandsBelow below) slots.now × LevelsStand (suc below) levels

  abbrev pub RootFits : ℕ → Option (Bor (Slot V M A)) → Type 0
  RootFits height None = Unit {0}
  RootFits height (Some slot) = StandsBelow height slot.now

  abbrev pub RestStands : Rest V M A → Type 0
  RestStands rest = LevelsStand 0 rest.levels × RootFits rest.height rest.root × (rest.height ≤ 7)

  -- nothing is left of the branches with fewer levels below
  abbrev pub NoneBelow : ℕ → List (Bor (List (Slot V M A))) → Type 0
  NoneBelow zero levels = Unit {0}
  NoneBelow (suc below) [] = Unit {0}
  NoneBelow (suc below) (slots ∷ levels) = (slots.now ≡ []) × NoneBelow below levels

  -- and nothing of the list
  abbrev pub IsPast : ℕ → Rest V M A → Type 0
  IsPast below rest = (rest.list.now ≡ []) × NoneBelow below rest.levels
