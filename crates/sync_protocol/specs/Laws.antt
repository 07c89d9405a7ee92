-- What the answers to hellos and asks are to who gets them, and what stays of the snapshots that are kept. Of this project.
use Rattle.std.specs.Prelude.{◌≡◌, ◌≤◌, ℕ, Bool, List, [], length, Some}
use Rattle.std.specs.List.{All}
use Rattle.std.specs.FinMap as finite
use Rattle.causal_context.specs.Context.{has}
use Rattle.dots.specs.Dot.{DotValue}
use Rattle.wire_form.specs.Message.{MessageValue, Delta, Hello, Opening, Ask, Page, Gone}
use Rattle.wire_form.specs.Session.{SessionValue}
use Rattle.prefix_digest.specs.Page.{digest_at}
use Rattle.sync_model.specs.Differ.{Held}
use Rattle.sync_model.specs.Fetch.{Fetch, Took, take_opening, take_page}
use Rattle.sync_model.specs.Laws.{IsLawfulMap, Taking, Fetched, NoClash, KnowsEachDot, OneValue}
use Rattle.sync_protocol.specs.Snapshot.{SnapshotValue, KeptValue}
use Rattle.sync_protocol.specs.Answering.{LIMIT, snapshot_of, kept_after, told_of, opening_of, answer_of}

-- ---- what an asker takes

-- The message is an opening, and an asker of this map, which knew these dots, has this once it took it.
abbrev pub TakesOpening : (List ℕ → ℕ) → Held → (DotValue → Bool) → MessageValue → Fetch → Type 0
TakesOpening hash_of own seen (Opening s context root) f = take_opening hash_of own seen (has context) root ≡ Took f
TakesOpening hash_of own seen (Delta d) f = ⊥
TakesOpening hash_of own seen (Hello s context) f = ⊥
TakesOpening hash_of own seen (Ask s prefix) f = ⊥
TakesOpening hash_of own seen (Page s sent) f = ⊥
TakesOpening hash_of own seen (Gone s) f = ⊥

-- The message is a page, and such an asker, which took an opening that knew these dots and had the first, has the second once it took it.
abbrev pub TakesPage : (List ℕ → ℕ) → Held → (seen opened : DotValue → Bool) → Fetch → MessageValue → Fetch → Type 0
TakesPage hash_of own seen opened f (Page s sent) g = take_page hash_of own seen opened f sent.prefix sent.page sent.values ≡ Took g
TakesPage hash_of own seen opened f (Delta d) g = ⊥
TakesPage hash_of own seen opened f (Hello s context) g = ⊥
TakesPage hash_of own seen opened f (Opening s context root) g = ⊥
TakesPage hash_of own seen opened f (Ask s prefix) g = ⊥
TakesPage hash_of own seen opened f (Gone s) g = ⊥

module _ {Hash : Type 0} (hash_of : Hash → List ℕ → ℕ) where
  -- What a hello is answered is taken, where no two of the pages and values of both maps have one digest, and the dots of the
  -- snapshot's map are among those that were known with it.
  abbrev pub HellosAreTaken : Type 0
  HellosAreTaken = (kept : KeptValue Hash) (s : SessionValue) (new : SnapshotValue Hash) (own : Held)
      → let k = told_of kept s new in
      IsLawfulMap own → NoClash (hash_of k.hash) own k.map [] → KnowsEachDot (has k.context) k.map
      → (f : Fetch) × TakesOpening (hash_of k.hash) own (has k.seen) (opening_of hash_of s k) f

  -- Whatever was taken since of a session that is kept: the ask for each prefix that is then waited for is answered, and what it
  -- is answered is taken.
  abbrev pub AsksAreTaken : Type 0
  AsksAreTaken = (kept : KeptValue Hash) (s : SessionValue) (k : SnapshotValue Hash) (own : Held) (ts : List Taking) (f : Fetch)
      → snapshot_of kept s ≡ Some k
      → IsLawfulMap own → NoClash (hash_of k.hash) own k.map ts → KnowsEachDot (has k.context) k.map → OneValue own k.map
      → Fetched (hash_of k.hash) own (has k.seen) (has k.context) (digest_at (hash_of k.hash) k.map []) ts f
      → (p d : List ℕ) → finite.get f.waiting p ≡ Some d
      → (answer : MessageValue) × (answer_of hash_of kept s p ≡ Some answer)
      × ((g : Fetch) × TakesPage (hash_of k.hash) own (has k.seen) (has k.context) f answer g)

-- ---- what stays

module _ (Hash : Type 0) where
  -- all keys' paths are by one hash
  abbrev pub AreHashedBy : Hash → KeptValue Hash → Type 0
  AreHashedBy hash kept = All (λ e. e.1.hash ≡ hash) kept

  abbrev pub HashesStay : Type 0
  HashesStay = (hash : Hash) (kept : KeptValue Hash) (s : SessionValue) (new : SnapshotValue Hash) → AreHashedBy hash kept → new.hash ≡ hash
      → AreHashedBy hash (kept_after kept s new) × ((told_of kept s new).hash ≡ hash)

  -- there are never more than eight
  abbrev pub FewStay : Type 0
  FewStay = (kept : KeptValue Hash) (s : SessionValue) (new : SnapshotValue Hash) → length kept ≤ LIMIT → length (kept_after kept s new) ≤ LIMIT

  -- The snapshot that a hello is told of is the one that is kept of its session afterwards; so the same hello, repeated, moves
  -- nothing and is told the same, whatever the replica holds by then.
  abbrev pub HellosAreKept : Type 0
  HellosAreKept = (kept : KeptValue Hash) (s : SessionValue) (new : SnapshotValue Hash) → snapshot_of (kept_after kept s new) s ≡ Some (told_of kept s new)

  abbrev pub RepeatsMoveNothing : Type 0
  RepeatsMoveNothing = (kept : KeptValue Hash) (s : SessionValue) (new later : SnapshotValue Hash)
      → (kept_after (kept_after kept s new) s later ≡ kept_after kept s new) × (told_of (kept_after kept s new) s later ≡ told_of kept s new)
