-- What a replica answers to the hellos and the asks of others, off the snapshots that it keeps for their sessions. Of this project.
use Rattle.std.specs.Prelude.{ℕ, nat_lt, List, [], ◌∷◌, ◌++◌, length, Option, Some, None, cond}
use Rattle.std.specs.Option.{option_map}
use Rattle.std.specs.Map.{lookup}
use Rattle.causal_context.specs.Context.{has}
use Rattle.wire_form.specs.Message.{MessageValue, Opening, Page, Gone}
use Rattle.wire_form.specs.Page.{PageValue}
use Rattle.wire_form.specs.Session.{SessionValue, same_session}
use Rattle.prefix_digest.specs.Page.{page_at, digest_at}
use Rattle.prefix_digest.specs.Values.{unknown_at}
use Rattle.sync_protocol.specs.Snapshot.{SnapshotValue, KeptValue}

-- at most so many snapshots are kept
abbrev pub LIMIT : ℕ
LIMIT = 8

module _ {Hash : Type 0} where
  -- the snapshot of a session, if it is kept
  abbrev pub snapshot_of : KeptValue Hash → SessionValue → Option (SnapshotValue Hash)
  snapshot_of kept s = lookup (same_session s) kept

  -- the kept snapshots with that of one session more: of eight the oldest is dropped
  abbrev pub all_but_first : KeptValue Hash → KeptValue Hash
  all_but_first [] = []
  all_but_first (k ∷ ks) = ks

  abbrev pub with_place : KeptValue Hash → KeptValue Hash
  with_place kept = cond (nat_lt (length kept) LIMIT) kept (all_but_first kept)

  abbrev pub keeping : SessionValue → SnapshotValue Hash → KeptValue Hash → KeptValue Hash
  keeping s new kept = with_place kept ++ (s, new) ∷ []

  -- A hello: the snapshots that are kept after it, and the one that it is told of. Where its session is kept these are as they
  -- were, and it is told of the one that is kept; else of a new one, which is kept from then on.
  abbrev pub kept_with : SessionValue → SnapshotValue Hash → KeptValue Hash → Option (SnapshotValue Hash) → KeptValue Hash
  kept_with s new kept None = keeping s new kept
  kept_with s new kept (Some k) = kept

  abbrev pub kept_after : KeptValue Hash → SessionValue → SnapshotValue Hash → KeptValue Hash
  kept_after kept s new = kept_with s new kept (snapshot_of kept s)

  abbrev pub told_with : SnapshotValue Hash → Option (SnapshotValue Hash) → SnapshotValue Hash
  told_with new None = new
  told_with new (Some k) = k

  abbrev pub told_of : KeptValue Hash → SessionValue → SnapshotValue Hash → SnapshotValue Hash
  told_of kept s new = told_with new (snapshot_of kept s)

  module _ (hash_of : Hash → List ℕ → ℕ) where
    -- the opening of a snapshot: the dots that were known with its map, and the digest of the map, if it has a key
    abbrev pub opening_of : SessionValue → SnapshotValue Hash → MessageValue
    opening_of s k = Opening s k.context (digest_at (hash_of k.hash) k.map [])

    -- its page at a prefix, with the values of the page's dots that the asker did not know; none where it has no key under the prefix
    abbrev pub page_for : SessionValue → SnapshotValue Hash → List ℕ → PageValue → MessageValue
    page_for s k prefix page = Page s (record { prefix = prefix; values = unknown_at (has k.seen) (hash_of k.hash) k.map prefix; page = page })

    abbrev pub page_of : SessionValue → SnapshotValue Hash → List ℕ → Option MessageValue
    page_of s k prefix = option_map (page_for s k prefix) (page_at (hash_of k.hash) k.map prefix)

    -- the answer to an ask: that page of the snapshot of its session, or that the session is not kept
    abbrev pub answer_with : SessionValue → List ℕ → Option (SnapshotValue Hash) → Option MessageValue
    answer_with s prefix None = Some (Gone s)
    answer_with s prefix (Some k) = page_of s k prefix

    abbrev pub answer_of : KeptValue Hash → SessionValue → List ℕ → Option MessageValue
    answer_of kept s prefix = answer_with s prefix (snapshot_of kept s)
