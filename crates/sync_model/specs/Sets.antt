-- What a synchronisation by pages comes to between two replicas that have seen sets of operations: what the asker holds after it is
-- the state of what it has seen with all that its peer had seen when it opened, whatever it has seen since it asked. Of this
-- project.
use Rattle.std.specs.Prelude.{◌≡◌, ℕ, List, [], ◌∷◌, ◌++◌, None, Some}
use Rattle.std.specs.FinMap as finite
use Rattle.op_model.specs.Meaning.{greater, state}
use Rattle.op_model.specs.Operation.{Operation, has, known, NoReuse, IsPartOf}
use Rattle.op_model.specs.State.{Same, join}
use Rattle.prefix_digest.specs.MapOf.{map_of, root_digest}
use Rattle.prefix_digest.specs.Page.{page_at}
use Rattle.prefix_digest.specs.Values.{unknown_at}
use Rattle.sync_model.specs.Fetch.{Fetch}
use Rattle.sync_model.specs.Laws.{Taking, NoClash, Fetched}
use Rattle.sync_model.specs.Closing.{held_state}

-- the asker had seen the first set when it asked, and its peer the second when it opened: what the asker has after the opening
-- and these pages
module _ (hash_of : List ℕ → ℕ) (asked opened : List Operation) where
  abbrev pub FetchedOf : List Taking → Fetch → Type 0
  FetchedOf = Fetched hash_of (map_of asked) (has (known asked)) (has (known opened)) (root_digest hash_of opened)

  abbrev pub NoClashOf : List Taking → Type 0
  NoClashOf = NoClash hash_of (map_of asked) (map_of opened)

-- Where the asker waits for nothing more, what it has built joined into the state of what it has seen by then, under the dots that
-- its peer knew, is the state of that and of what its peer had seen.
abbrev pub Done : Type 0
Done = (hash_of : List ℕ → ℕ) (asked opened seen : List Operation) (ts : List Taking) (f : Fetch)
    → IsPartOf asked seen → NoReuse (seen ++ opened) → NoClashOf hash_of asked opened ts → FetchedOf hash_of asked opened ts f
    → ((p : List ℕ) → finite.get f.waiting p ≡ None)
    → Same (join greater (state seen) (held_state f.built (has (known opened)))) (state (seen ++ opened))

-- And each page that it waits for the peer can tell, by the map of what it had seen when it opened, and it is taken.
abbrev pub FetchGoesOn : Type 0
FetchGoesOn = (hash_of : List ℕ → ℕ) (asked opened : List Operation) (ts : List Taking) (f : Fetch)
    → NoReuse (asked ++ opened) → NoClashOf hash_of asked opened ts → FetchedOf hash_of asked opened ts f
    → (p d : List ℕ) → finite.get f.waiting p ≡ Some d
    → (t : Taking) × (t.prefix ≡ p) × (page_at hash_of (map_of opened) p ≡ Some t.page) × (t.sent ≡ unknown_at (has (known asked)) hash_of (map_of opened) p)
    × ((g : Fetch) × FetchedOf hash_of asked opened (t ∷ ts) g)

-- as is its opening
abbrev pub Opens : Type 0
Opens = (hash_of : List ℕ → ℕ) (asked opened : List Operation) → NoReuse (asked ++ opened) → NoClashOf hash_of asked opened []
    → (f : Fetch) × FetchedOf hash_of asked opened [] f
