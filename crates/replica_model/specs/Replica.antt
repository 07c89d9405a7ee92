-- What one replica is: its live state and what it is to send, its own sessions that are open, and the snapshots that it keeps for the
-- sessions of others. Of this project.
use Rattle.std.specs.Prelude.{ℕ, ◌+◌, Bool, ◌==◌, not, nat_lt, List, [], ◌∷◌, ◌++◌, map, length, Option, Some, None, cond}
use Rattle.std.specs.List.{filter}
use Rattle.dots.specs.Dot.{DotValue}
use Rattle.op_model.specs.Meaning.{MapState, greater, state}
use Rattle.op_model.specs.State.{join}
use Rattle.wire_form.specs.Session.{SessionValue, same_session}
use Rattle.sync_model.specs.Differ.{Held}
use Rattle.sync_model.specs.Fetch.{Fetch}

-- an opening that was accepted: the dots that it knows, and how far its pages were fetched
pub record Accepted : Type 0 where
  pub context : DotValue → Bool
  pub fetch : Fetch

-- an own session that is open: the own map and the known dots of when it asked, and the opening, once one was accepted
pub record Open : Type 0 where
  pub session : SessionValue
  pub own : Held
  pub seen : DotValue → Bool
  pub accepted : Option Accepted

-- a snapshot that is kept for a session of an asker: the dots that the asker knew, the own map, and the dots known with it
pub record Kept : Type 0 where
  pub session : SessionValue
  pub seen : DotValue → Bool
  pub map : Held
  pub context : DotValue → Bool

pub record Replica : Type 0 where
  pub name : ℕ
  pub live : MapState
  pub group : MapState  -- what it made since it last sent
  pub opened : ℕ  -- the number of its last own session
  pub sessions : List Open  -- by their numbers
  pub kept : List Kept  -- the oldest first

-- a replica to which nothing happened yet
abbrev pub fresh : ℕ → Replica
fresh name = record { name = name; live = state []; group = state []; opened = 0; sessions = []; kept = [] }

-- the open session, the one of this number, and the kept snapshot, if there is one
abbrev pub open_at : List Open → SessionValue → Option Open
open_at [] s = None
open_at (o ∷ os) s = cond (same_session o.session s) (Some o) (open_at os s)

abbrev pub open_numbered : List Open → ℕ → Option Open
open_numbered [] number = None
open_numbered (o ∷ os) number = cond (o.session.number == number) (Some o) (open_numbered os number)

abbrev pub kept_at : List Kept → SessionValue → Option Kept
kept_at [] s = None
kept_at (k ∷ ks) s = cond (same_session k.session s) (Some k) (kept_at ks s)

-- the open sessions with this one as it is now, and without it
abbrev pub advanced : Open → List Open → List Open
advanced next os = map (λ o. cond (same_session o.session next.session) next o) os

abbrev pub without_session : SessionValue → List Open → List Open
without_session s os = filter (λ o. not (same_session o.session s)) os

-- at most so many own sessions are open, and so many snapshots kept
abbrev pub LIMIT : ℕ
LIMIT = 8

-- the kept snapshots with one more: of eight the oldest is dropped
abbrev pub all_but_first : List Kept → List Kept
all_but_first [] = []
all_but_first (k ∷ ks) = ks

abbrev pub keeping : Kept → List Kept → List Kept
keeping k ks = cond (nat_lt (length ks) LIMIT) ks (all_but_first ks) ++ k ∷ []

-- ---- the changes of which all steps are made

-- it takes a delta in, and what it made itself into what it is to send besides
abbrev pub joins : Replica → MapState → Replica
joins r delta = record r { live = join greater r.live delta }

abbrev pub makes : Replica → MapState → Replica
makes r delta = record r { live = join greater r.live delta; group = join greater r.group delta }

-- it has sent what it was to send
abbrev pub flushed : Replica → Replica
flushed r = record r { group = state [] }

-- it opens the next own session, of this own map
abbrev pub next_session : Replica → ℕ → SessionValue
next_session r peer = record { asker = r.name; answerer = peer; number = r.opened + 1 }

abbrev pub opens : Replica → ℕ → Held → Replica
opens r peer own = record r {
  opened = r.opened + 1;
  sessions = r.sessions ++ record { session = next_session r peer; own = own; seen = r.live.has; accepted = None } ∷ [];
}

-- an own session goes on, and closes
abbrev pub advances : Replica → Open → Replica
advances r next = record r { sessions = advanced next r.sessions }

abbrev pub closes : Replica → SessionValue → Replica
closes r s = record r { sessions = without_session s r.sessions }

-- What a restart leaves of it: what it holds, what it is to send and the number of its last own session. Its own sessions are closed, and no
-- snapshot is kept any more.
abbrev pub restarts : Replica → Replica
restarts r = record r { sessions = []; kept = [] }

-- it keeps a snapshot
abbrev pub keeps : Replica → Kept → Replica
keeps r k = record r { kept = keeping k r.kept }
