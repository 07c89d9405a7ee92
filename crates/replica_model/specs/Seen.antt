-- What each replica has seen, told by what happened alone: by the events, what each was answered and how many messages it sent, and the bytes of the
-- messages, of which the kind and the session are read. Nothing is asked of what a replica holds. Of this project; after the delta-interval
-- anti-entropy of Almeida, Shoker and Baquero, "Delta State Replicated Data Types" (2018).
--
-- An operation is seen where it was made, where a delta that carries it was delivered, and where a synchronisation ended whose peer had seen it when it
-- kept its snapshot.
use Rattle.std.specs.Prelude.{◌≡◌, ◌⊎◌, ◌==◌, ℕ, ◌-◌, nat_lt, List, [], ◌∷◌, ◌++◌, length, take, drop, fold, slice_index_or, Option, Some, None, cond}
use Rattle.std.specs.Option.{unwrap_or}
use Rattle.std.specs.Int.{w64, from_be_bytes}
use Rattle.std.specs.List.{Contains, repeat}
use Rattle.op_model.specs.Made.{put_at, remove_at, remove_field_at, clear_at}
use Rattle.op_model.specs.Operation.{Operation}
use Rattle.op_model.specs.World.{grown, emptied, message}
use Rattle.prefix_digest.specs.MapOf.{map_of}
use Rattle.prefix_digest.specs.Page.{page_at, digest_of}
use Rattle.sha2.specs.Sha256.{sha256}
use Rattle.sync_model.specs.Laws.{HoldsValue}
use Rattle.wire_form.specs.Message.{DELTA, HELLO, OPENING, PAGE, SpellsIn}
use Rattle.wire_form.specs.Page.{PageValue}
use Rattle.wire_form.specs.Sent.{SentValue, sent, IsSent}
use Rattle.wire_form.specs.Session.{SessionValue, same_session}
use Rattle.replica_model.specs.Replica.{LIMIT}
use Rattle.replica_model.specs.Delivery.{Outcome, Sent, Done, Ignored}
use Rattle.replica_model.specs.Step.{Call, Put, Remove, RemoveField, Clear, Flush, Ask, Restart, Answer, Numbered, Came}
use Rattle.replica_model.specs.World.{Event, Node, At, Deliver, changed}
use Rattle.replica_model.specs.Happened.{Happened}

-- ---- messages, by their first bytes: a version, the kind, and in all but a delta the session

pub data Kind : Type 0 where
  Delta : Kind
  Hello : Kind
  Opening : Kind
  Page : Kind
  Other : Kind  -- an ask or a gone, of which nothing is learnt

abbrev pub kind_numbered : ℕ → Kind
kind_numbered n = cond (n == DELTA) Delta (cond (n == HELLO) Hello (cond (n == OPENING) Opening (cond (n == PAGE) Page Other)))

abbrev pub kind_of : List ℕ → Kind
kind_of bytes = kind_numbered (slice_index_or bytes 1 0)

-- the eight bytes from there on, as a number
abbrev pub number_in : ℕ → List ℕ → ℕ
number_in from bytes = from_be_bytes w64 (take 8 (drop from bytes))

abbrev pub session_in : List ℕ → SessionValue
session_in bytes = record { asker = number_in 2 bytes; answerer = number_in 10 bytes; number = number_in 18 bytes }

-- ---- what is told

-- a snapshot that is kept for a session: what its answerer had seen then
pub record Snapshot : Type 0 where
  pub session : SessionValue
  pub seen : List Operation

-- what a session met that ended: what its asker had seen when it asked, what its answerer had seen when it kept the snapshot, and the messages that
-- brought the pages
pub record Met : Type 0 where
  pub own : List Operation
  pub theirs : List Operation
  pub pages : List (List ℕ)

pub record Account : Type 0 where
  pub nodes : List ℕ  -- the names of the replicas that are there
  pub seen : ℕ → List Operation  -- by name, what the replica has seen
  pub unsent : ℕ → List Operation  -- by name, what it made since it last flushed
  pub carried : List (List Operation)  -- by message, from 1 on: what a delta tells of; of an opening, what its snapshot was taken of
  pub asked : SessionValue → List Operation  -- what its asker had seen when it asked
  pub kept : ℕ → List Snapshot  -- by name, the oldest first
  pub opened : SessionValue → List Operation  -- what the opening carries that its asker took
  pub pages : SessionValue → List (List ℕ)  -- the messages with pages that its asker took, the last first
  pub met : List Met  -- the sessions that ended with Done

-- before anything happened
abbrev pub nothing_told : Account
nothing_told = record {
  nodes = [];
  seen = λ name. [];
  unsent = λ name. [];
  carried = [];
  asked = λ s. [];
  kept = λ name. [];
  opened = λ s. [];
  pages = λ s. [];
  met = [];
}

-- a replica makes operations, and learns of operations
abbrev pub makes : ℕ → List Operation → Account → Account
makes name more a = record a { seen = λ n. grown (n == name) (a.seen n) more; unsent = λ n. grown (n == name) (a.unsent n) more }

abbrev pub learns : ℕ → List Operation → Account → Account
learns name more a = record a { seen = λ n. grown (n == name) (a.seen n) more }

-- the session that an ask opened
abbrev pub number_of : Answer → ℕ
number_of (Numbered number) = number
number_of other = 0

abbrev pub session_of : ℕ → ℕ → Answer → SessionValue
session_of name peer answer = record { asker = name; answerer = peer; number = number_of answer }

-- after a call: what it makes is made at what the replica has seen
abbrev pub calls : ℕ → Call → Answer → Account → Account
calls name (Put place value) answer a = makes name (put_at (a.seen name) name place value) a
calls name (Remove key) answer a = makes name (remove_at (a.seen name) key) a
calls name (RemoveField place) answer a = makes name (remove_field_at (a.seen name) place) a
calls name Clear answer a = makes name (clear_at (a.seen name)) a
calls name Flush answer a = record a { unsent = λ n. emptied (n == name) (a.unsent n) }
calls name (Ask peer) answer a = record a { asked = changed a.asked (session_of name peer answer) (a.seen name) }
calls name Restart answer a = record a { kept = λ n. cond (n == name) [] (a.kept n) }
calls name other answer a = a

-- what had been seen of the snapshot that is kept for a session, if one is
abbrev pub kept_for : List Snapshot → SessionValue → Option (List Operation)
kept_for [] s = None
kept_for (k ∷ ks) s = cond (same_session k.session s) (Some k.seen) (kept_for ks s)

-- one more is kept where none is for its session: of eight the oldest is dropped
abbrev pub keeping : List Snapshot → SessionValue → List Operation → Option (List Operation) → List Snapshot
keeping ks s seen (Some before) = ks
keeping ks s seen None = cond (nat_lt (length ks) LIMIT) ks (drop 1 ks) ++ record { session = s; seen = seen } ∷ []

abbrev pub keeps : ℕ → SessionValue → Account → Account
keeps name s a = record a { kept = λ n. cond (n == name) (keeping (a.kept n) s (a.seen n) (kept_for (a.kept n) s)) (a.kept n) }

-- a session ended: its asker learns of these
abbrev pub ends : ℕ → SessionValue → List Operation → List (List ℕ) → Account → Account
ends name s theirs pages a = record a {
  seen = λ n. grown (n == name) (a.seen n) theirs;
  met = a.met ++ record { own = a.asked s; theirs = theirs; pages = pages } ∷ [];
}

-- after a delivery, by the kind of the message, the answer, the session, what the message carries, and its bytes
abbrev pub takes : Kind → Outcome → ℕ → SessionValue → List Operation → List ℕ → Account → Account
takes Delta outcome name s of bytes a = learns name of a
takes Hello Sent name s of bytes a = keeps name s a
takes Opening Sent name s of bytes a = record a { opened = changed a.opened s of; pages = changed a.pages s [] }
takes Opening Done name s of bytes a = ends name s of [] a
takes Page Sent name s of bytes a = record a { pages = changed a.pages s (bytes ∷ a.pages s) }
takes Page Done name s of bytes a = ends name s (a.opened s) (bytes ∷ a.pages s) a
takes kind outcome name s of bytes a = a

abbrev pub outcome_in : Answer → Outcome
outcome_in (Came outcome) = outcome
outcome_in other = Ignored

-- what the messages carry that an event sends, by what is told before it and after it: of a flush what was not sent, of an opening what is kept
abbrev pub opens_with : Kind → List Operation → List Operation
opens_with Hello seen = seen
opens_with _ seen = []

module _ (messages : List (List ℕ)) where
  -- the bytes of the message of this number, from 1 on
  abbrev pub bytes_at : ℕ → List ℕ
  bytes_at number = slice_index_or messages (number - 1) []

  abbrev pub carries : Event → Account → Account → List Operation
  carries (At name Flush) before after = before.unsent name
  carries (Deliver number name) before after =
      opens_with (kind_of (bytes_at number)) (unwrap_or (kept_for (after.kept name) (session_in (bytes_at number))) [])
  carries other before after = []

  -- after an event that was answered so, and after all that happened with it
  abbrev pub does : Event → Answer → Account → Account
  does (Node name) answer a = record a { nodes = a.nodes ++ name ∷ [] }
  does (At name call) answer a = calls name call answer a
  does (Deliver number name) answer a =
      takes (kind_of (bytes_at number)) (outcome_in answer) name (session_in (bytes_at number)) (message a.carried number) (bytes_at number) a

  abbrev pub tells : Account → Happened → Account
  tells a h =
      let b = does h.event h.answer a in
      record b { carried = a.carried ++ repeat h.sent (carries h.event a b ∷ []) }

  -- the account of all that happened, with these messages, from 1 on
  abbrev pub account : List Happened → Account
  account = fold tells nothing_told

-- ---- what has to be apart

-- the message brought this page, with values
abbrev pub Brought : List (List ℕ) → SentValue → Type 0
Brought messages page = (bytes : List ℕ) × (s : SessionValue) × Contains messages bytes × SpellsIn PAGE sent IsSent bytes s page

module _ (hash_of : List ℕ → ℕ) (m : Met) where
  -- the pages of both maps, and those that were taken
  abbrev pub MetPage : PageValue → Type 0
  MetPage page =
      (((p : List ℕ) × (page_at hash_of (map_of m.own) p ≡ Some page)) ⊎ ((p : List ℕ) × (page_at hash_of (map_of m.theirs) p ≡ Some page)))
      ⊎ ((t : SentValue) × Brought m.pages t × (t.page ≡ page))

  -- the values of both maps, and those that came
  abbrev pub MetValue : List ℕ → Type 0
  MetValue value = (HoldsValue (map_of m.own) value ⊎ HoldsValue (map_of m.theirs) value) ⊎ ((t : SentValue) × Brought m.pages t × Contains t.values value)

  -- no two different pages met have one SHA-256, and no two different values
  pub record HasNoClash : Type 0 where
    pub pages : (a b : PageValue) → MetPage a → MetPage b → digest_of a ≡ digest_of b → a ≡ b
    pub values : (a b : List ℕ) → MetValue a → MetValue b → sha256 a ≡ sha256 b → a ≡ b

-- of all sessions that ended
abbrev pub Unclashed : (List ℕ → ℕ) → Account → Type 0
Unclashed hash_of a = (m : Met) → Contains a.met m → HasNoClash hash_of m
