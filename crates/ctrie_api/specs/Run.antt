-- Runs of tries, of this project. The tries are a list, in the order in which they were made. A write changes its own map
-- alone, and a snapshot appends a copy.
-- Example: of one empty trie, insert a 1 at 0, snapshot 0, clear 0 lead to two tries: an empty one, and one with a at 1.
use Rattle.std.specs.Prelude.{◌≡◌, ◌==◌, ◌<◌, ℕ, zero, suc, Bool, true, false, cond, List, []}
use Rattle.std.specs.Prelude.{◌∷◌, ◌++◌, length, take, drop, Option, Some, None, Result, Ok, Err, fold, slice_get}
use Rattle.std.specs.Option.{option_map}
use Rattle.std.specs.FinMap as finite
use Rattle.dots.specs.Bytes.{bytes_cmp}
use Rattle.ctrie_api.specs.Trie.{Trie}
use Rattle.ctrie_api.specs.declared.act.Act.{Act}
use Rattle.ctrie_api.specs.declared.act.Act.TheVariants.{Insert, Remove, Clear, Snapshot, ReadOnlySnapshot}

-- the list with a change at the element of this index, where it is there
abbrev pub changed_at : {X : Type 0} → ℕ → (X → X) → List X → List X
changed_at index change [] = []
changed_at zero change (x ∷ xs) = change x ∷ xs
changed_at (suc index) change (x ∷ xs) = x ∷ changed_at index change xs

-- what there is, as a list
abbrev pub as_list : {X : Type 0} → Option X → List X
as_list None = []
as_list (Some x) = x ∷ []

module _ {H V : Type 0} where
  -- a trie after its map was written: one that is read-only stays
  abbrev pub written : (finite.FinMap bytes_cmp V → finite.FinMap bytes_cmp V) → Trie H V → Trie H V
  written change trie = cond trie.read_only trie (record trie { map = change trie.map })

  -- the same map, read-only
  abbrev pub read_only : Trie H V → Trie H V
  read_only trie = record trie { read_only = true }

  -- the snapshot of a trie that is there, which is read-only where that is asked for
  abbrev pub snapshot_of : Bool → Option (Trie H V) → Option (Trie H V)
  snapshot_of false found = found
  snapshot_of true found = option_map read_only found

  -- whether a trie is there and is read-only
  abbrev pub takes_no_write : Option (Trie H V) → Bool
  takes_no_write None = false
  takes_no_write (Some trie) = trie.read_only

  module _ {A : Type 0} where
    -- the tries after an act
    abbrev pub acted : List (Trie H V) → Act V A → List (Trie H V)
    acted tries (Insert index key value) = changed_at index (written (λ map. finite.insert map key value)) tries
    acted tries (Remove index key) = changed_at index (written (λ map. finite.remove map key)) tries
    acted tries (Clear index) = changed_at index (written (λ map. finite.empty)) tries
    acted tries (Snapshot index) = tries ++ as_list (snapshot_of false (slice_get tries index))
    acted tries (ReadOnlySnapshot index) = tries ++ as_list (snapshot_of true (slice_get tries index))

    -- the tries after these acts, in their order
    abbrev pub acted_all : List (Trie H V) → List (Act V A) → List (Trie H V)
    acted_all tries acts = fold acted tries acts

    -- the trie of an index after an act: one that is a write at this index writes to it
    abbrev pub after_act : ℕ → Trie H V → Act V A → Trie H V
    after_act place trie (Insert index key value) = cond (index == place) (written (λ map. finite.insert map key value) trie) trie
    after_act place trie (Remove index key) = cond (index == place) (written (λ map. finite.remove map key) trie) trie
    after_act place trie (Clear index) = cond (index == place) (written (λ map. finite.empty) trie) trie
    after_act place trie (Snapshot index) = trie
    after_act place trie (ReadOnlySnapshot index) = trie

    -- each trie that is there after some first acts is in the end what the writes of the other acts at its index make of it
    abbrev pub EachIsWritten : List (Trie H V) → List (Trie H V) → List (Act V A) → Type 0
    EachIsWritten old new acts = (first place : ℕ) → place < length (acted_all old (take first acts))
        → slice_get new place ≡ option_map (λ trie. fold (after_act place) trie (drop first acts)) (slice_get (acted_all old (take first acts)) place)

    -- whether an act is a write at a trie that is read-only
    abbrev pub is_refused : List (Trie H V) → Act V A → Bool
    is_refused tries (Insert index key value) = takes_no_write (slice_get tries index)
    is_refused tries (Remove index key) = takes_no_write (slice_get tries index)
    is_refused tries (Clear index) = takes_no_write (slice_get tries index)
    is_refused tries (Snapshot index) = false
    is_refused tries (ReadOnlySnapshot index) = false

-- the acts that a run carried out, which answers with an error how many of them there are
abbrev pub carried_out : {X Y : Type 0} → Result X ℕ → List Y → List Y
carried_out (Ok _) acts = acts
carried_out (Err done) acts = take done acts

module _ {V A : Type 0} where
  -- the index of the trie that an act is at
  abbrev pub index_of : Act V A → ℕ
  index_of (Insert index key value) = index
  index_of (Remove index key) = index
  index_of (Clear index) = index
  index_of (Snapshot index) = index
  index_of (ReadOnlySnapshot index) = index

  -- the act is a write at the trie of this index
  abbrev pub IsWriteAt : ℕ → Act V A → Type 0
  IsWriteAt place (Insert index key value) = index ≡ place
  IsWriteAt place (Remove index key) = index ≡ place
  IsWriteAt place (Clear index) = index ≡ place
  IsWriteAt place (Snapshot index) = ⊥
  IsWriteAt place (ReadOnlySnapshot index) = ⊥
