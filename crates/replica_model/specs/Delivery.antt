-- What a delivery of a message does at a replica: the table of deliveries. Of this project.
use Rattle.std.specs.Prelude.{ℕ, Bool, List, [], ◌∷◌, ◌++◌, map, length, nat_lt, Option, Some, None, cond}
use Rattle.std.specs.FinMap as finite
use Rattle.dots.specs.Dot.{DotValue}
use Rattle.wire_form.specs.Page.{PageValue}
use Rattle.wire_form.specs.Session.{SessionValue}
use Rattle.wire_form.specs.Sent.{SentValue}
use Rattle.prefix_digest.specs.Page.{page_at, digest_at}
use Rattle.prefix_digest.specs.Values.{unknown_at}
use Rattle.sync_model.specs.Closing.{held_state}
use Rattle.sync_model.specs.Differ.{Held}
use Rattle.sync_model.specs.Fetch.{Fetch, children_of, to_ask, take_opening, take_page}
use Rattle.sync_model.specs.Fetch as fetch
use Rattle.replica_model.specs.Mail.{Mail, Delta, Hello, Opening, Ask, Page, Gone, is_for}
use Rattle.replica_model.specs.Replica.{Replica, Open, Accepted, Kept, open_at, kept_at, joins, advances, closes, keeps}

-- what a delivery is answered
pub data Outcome : Type 0 where
  Joined : Outcome  -- a delta was joined in
  Sent : Outcome  -- it was taken, and its replies go out
  Done : Outcome  -- a session ended, and what its peer had when it opened was joined in
  Ignored : Outcome  -- nothing was waiting for it
  Mismatch : Outcome  -- it is not what was promised
  Ended : Outcome  -- a session ended, and adds nothing: the peer keeps it no longer

-- the replica after a delivery, the answer, and what it sends
pub record Turn : Type 0 where
  pub new : Replica
  pub outcome : Outcome
  pub replies : List Mail

abbrev pub turn : Replica → Outcome → List Mail → Turn
turn r outcome replies = record { new = r; outcome = outcome; replies = replies }

abbrev pub ignored : Replica → Turn
ignored r = turn r Ignored []

-- whether no page is waited for
abbrev pub is_complete : Fetch → Bool
is_complete f = nat_lt (length (finite.entries f.waiting)) 1

-- the asks for these prefixes
abbrev pub asks_for : SessionValue → List (List ℕ) → List Mail
asks_for s prefixes = map (Ask s) prefixes

-- the asks for all that is waited for, by prefix: index by index, a shorter one first
abbrev pub asks_of : SessionValue → Fetch → List Mail
asks_of s f = asks_for s (map (λ e. e.0) (finite.entries f.waiting))

-- an open session with this opening, fetched so far
abbrev pub fetching : Open → (DotValue → Bool) → Fetch → Open
fetching o context f = record o { accepted = Some (record { context = context; fetch = f }) }

-- a session that took what it waited for: where it waits for nothing more it closes, and what was built is joined into the live state under the
-- opening's context; else it goes on with these asks
abbrev pub went_on : Replica → Open → (DotValue → Bool) → Fetch → List Mail → Turn
went_on r o context f asks =
    cond (is_complete f)
    (turn (closes (joins r (held_state f.built context)) o.session) Done [])
    (turn (advances r (fetching o context f)) Sent asks)

-- a gone: the session, where it is open, ends
abbrev pub took_gone : Replica → Option Open → Turn
took_gone r None = ignored r
took_gone r (Some o) = turn (closes r o.session) Ended []

module _ (hash_of : List ℕ → ℕ) where
  -- the opening of a kept snapshot
  abbrev pub opening_of : Kept → Mail
  opening_of k = Opening k.session k.context (digest_at hash_of k.map [])

  -- a hello: a session that is kept is told again, and of another the live state is kept, whose map is `own`
  abbrev pub took_hello : Held → Replica → SessionValue → (DotValue → Bool) → Option Kept → Turn
  took_hello own r s seen (Some k) = turn r Sent (opening_of k ∷ [])
  took_hello own r s seen None =
      let k : Kept = record { session = s; seen = seen; map = own; context = r.live.has } in
      turn (keeps r k) Sent (opening_of k ∷ [])

  -- an ask: the page of the kept snapshot with the values that the asker had not seen, if there is one
  abbrev pub page_for : SessionValue → Kept → List ℕ → PageValue → Mail
  page_for s k prefix page = Page s (record { prefix = prefix; values = unknown_at k.seen hash_of k.map prefix; page = page })

  abbrev pub answered : Replica → SessionValue → Kept → List ℕ → Option PageValue → Turn
  answered r s k prefix None = ignored r
  answered r s k prefix (Some page) = turn r Sent (page_for s k prefix page ∷ [])

  abbrev pub took_ask : Replica → SessionValue → List ℕ → Option Kept → Turn
  took_ask r s prefix None = turn r Sent (Gone s ∷ [])
  took_ask r s prefix (Some k) = answered r s k prefix (page_at hash_of k.map prefix)

  -- an opening: the first of an open session is taken, if it fits, and the pages that it promises are asked for from the root on
  abbrev pub opening_taken : Replica → Open → (DotValue → Bool) → fetch.Taken → Turn
  opening_taken r o context fetch.Ignored = ignored r
  opening_taken r o context fetch.Mismatch = turn r Mismatch []
  opening_taken r o context (fetch.Took f) = went_on r o context f (asks_of o.session f)

  abbrev pub took_first : Replica → Open → (DotValue → Bool) → Option (List ℕ) → Option Accepted → Turn
  took_first r o context root (Some a) = ignored r
  took_first r o context root None = opening_taken r o context (take_opening hash_of o.own o.seen context root)

  abbrev pub took_opening : Replica → (DotValue → Bool) → Option (List ℕ) → Option Open → Turn
  took_opening r context root None = ignored r
  took_opening r context root (Some o) = took_first r o context root o.accepted

  -- a page: one that is waited for is taken, if it fits, and of its children those are asked for that differ from the own map
  abbrev pub child_prefixes : Open → SentValue → List (List ℕ)
  child_prefixes o sent = map (λ c. sent.prefix ++ c.0 ∷ []) (to_ask hash_of o.own sent.prefix (children_of sent.page))

  abbrev pub page_taken : Replica → Open → (DotValue → Bool) → SentValue → fetch.Taken → Turn
  page_taken r o context sent fetch.Ignored = ignored r
  page_taken r o context sent fetch.Mismatch = turn r Mismatch []
  page_taken r o context sent (fetch.Took f) = went_on r o context f (asks_for o.session (child_prefixes o sent))

  abbrev pub took_further : Replica → Open → SentValue → Option Accepted → Turn
  took_further r o sent None = ignored r
  took_further r o sent (Some a) = page_taken r o a.context sent (take_page hash_of o.own o.seen a.context a.fetch sent.prefix sent.page sent.values)

  abbrev pub took_page : Replica → SentValue → Option Open → Turn
  took_page r sent None = ignored r
  took_page r sent (Some o) = took_further r o sent o.accepted

  -- what comes of a message that is for the replica, whose live state the map `own` stands for
  abbrev pub taken : Held → Replica → Mail → Turn
  taken own r (Delta d) = turn (joins r d) Joined []
  taken own r (Hello s seen) = took_hello own r s seen (kept_at r.kept s)
  taken own r (Ask s prefix) = took_ask r s prefix (kept_at r.kept s)
  taken own r (Opening s context root) = took_opening r context root (open_at r.sessions s)
  taken own r (Page s sent) = took_page r sent (open_at r.sessions s)
  taken own r (Gone s) = took_gone r (open_at r.sessions s)

  -- and of any: one that is for another replica is ignored
  abbrev pub delivered : Held → Replica → Mail → Turn
  delivered own r mail = cond (is_for r.name mail) (taken own r mail) (ignored r)
