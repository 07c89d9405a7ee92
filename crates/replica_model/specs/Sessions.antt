-- What the sessions of a world stand for, by fronts of its events: a front is the world before one of them. Of this project.
use Rattle.std.specs.Prelude.{◌≡◌, ℕ, ◌+◌, Bool, List, [], ◌∷◌, ◌++◌, Option, Some, None}
use Rattle.std.specs.List.{Contains}
use Rattle.dots.specs.Dot.{DotValue}
use Rattle.op_model.specs.Meaning.{greater}
use Rattle.op_model.specs.Operation.{Operation}
use Rattle.op_model.specs.State.{join}
use Rattle.wire_form.specs.Session.{SessionValue}
use Rattle.prefix_digest.specs.MapOf.{IsMapOf}
use Rattle.prefix_digest.specs.Page.{page_at, digest_at}
use Rattle.prefix_digest.specs.Values.{unknown_at}
use Rattle.sync_model.specs.Closing.{held_state, IsBelow}
use Rattle.sync_model.specs.Differ.{Held, Differ}
use Rattle.sync_model.specs.Laws.{Taking, TakenAt, Fetched, NoClash}
use Rattle.replica_model.specs.Mail.{Mail, Delta, Hello, Opening, Page, Gone, IsTurnOf}
use Rattle.replica_model.specs.Mail as mail
use Rattle.replica_model.specs.Replica.{Open, Accepted, kept_at}
use Rattle.replica_model.specs.Step.{Ask}
use Rattle.replica_model.specs.World.{World, Event, At, Deliver, Message, Snapshot, message_at, taking_of, nothing, Runs}

-- what the opening shows that a session has accepted which this message ends: the message itself, or the one that was accepted before
abbrev pub shown_by : World → Snapshot → Mail → Snapshot
shown_by w of (Delta d) = of
shown_by w of (mail.Hello s known) = of
shown_by w of (Opening s context root) = of
shown_by w of (mail.Ask s prefix) = of
shown_by w of (Page s sent) = w.accepted s
shown_by w of (Gone s) = of

-- the pages that it took, with this message, the newest first
abbrev pub taken_with : World → Mail → List Taking
taken_with w (Delta d) = []
taken_with w (mail.Hello s known) = []
taken_with w (Opening s context root) = []
taken_with w (mail.Ask s prefix) = []
taken_with w (Page s sent) = taking_of sent ∷ w.taken s
taken_with w (Gone s) = []

module _ (hash_of : List ℕ → ℕ) where
  -- The snapshot of a session was taken of what its answerer was just before one of the events, in which it took the hello of the session and
  -- kept none for it yet: so much had it seen, for its live state this map stood, and it knew these dots.
  pub record IsTakenOf (events : List Event) (s : SessionValue) (seen : List Operation) (map : Held) (context : DotValue → Bool) : Type 0 where
    pub front : List Event
    pub number : ℕ
    pub later : List Event
    pub split : events ≡ front ++ Deliver number s.answerer ∷ later
    pub before : World
    pub runs : Runs hash_of nothing front before
    pub message : Message
    pub there : message_at before.messages number ≡ Some message
    pub known : DotValue → Bool
    pub hello : message.mail ≡ Hello s known
    pub none_kept : kept_at (before.replica s.answerer).kept s ≡ None
    pub seen_then : seen ≡ before.seen s.answerer
    pub map_then : IsMapOf map (before.replica s.answerer).live
    pub known_then : context ≡ (before.replica s.answerer).live.has

  -- A session was opened by an ask, which was one of the events: this map stood for the live state of its asker just before, and it knew these dots.
  pub record IsAskOf (events : List Event) (s : SessionValue) (own : Held) (known : DotValue → Bool) : Type 0 where
    pub front : List Event
    pub later : List Event
    pub split : events ≡ front ++ At s.asker (Ask s.answerer) ∷ later
    pub before : World
    pub runs : Runs hash_of nothing front before
    pub numbered : s.number ≡ (before.replica s.asker).opened + 1
    pub own_then : IsMapOf own (before.replica s.asker).live
    pub known_then : known ≡ (before.replica s.asker).live.has

  -- What an open session is: its asker's own, opened by an ask, of a map that is below the live state ever since; and where it accepted
  -- an opening, it is that of a snapshot, and what is built was fetched from it.
  abbrev pub IsFetching : List Event → World → Open → Option Accepted → Type 0
  IsFetching events w o accepted =
      (a : Accepted) → accepted ≡ Some a
      → IsTakenOf events o.session (w.accepted o.session).seen (w.accepted o.session).map a.context
      × Fetched hash_of o.own o.seen a.context (digest_at hash_of (w.accepted o.session).map []) (w.taken o.session) a.fetch

  pub record IsSession (events : List Event) (w : World) (name : ℕ) (o : Open) : Type 0 where
    pub asker : o.session.asker ≡ name
    pub asked : IsAskOf events o.session o.own o.seen
    pub below : IsBelow (held_state o.own o.seen) (w.replica name).live
    pub fetching : IsFetching events w o o.accepted

  -- of these pages there is one at just each prefix where the maps differ, and one only; and each is the page of theirs, with the values whose dots
  -- are not among the known ones
  pub record TookAll (own theirs : Held) (known : DotValue → Bool) (takings : List Taking) : Type 0 where
    pub each : (p d : List ℕ) → Differ hash_of own theirs p d → TakenAt takings p
    pub no_other : (p : List ℕ) → TakenAt takings p → (d : List ℕ) × Differ hash_of own theirs p d
    pub once : (t : Taking) (older newer : List Taking) → takings ≡ newer ++ t ∷ older → ¬ TakenAt older t.prefix
    pub theirs_taken : (t : Taking) → Contains takings t → (page_at hash_of theirs t.prefix ≡ Some t.page) × (t.sent ≡ unknown_at known hash_of theirs t.prefix)

  -- How a delivery ends a session with Done: the message is an opening or a page of a session that is open at its asker; and it adds to its asker just
  -- what the answerer had seen when the snapshot was taken that the accepted opening shows.
  pub record IsEnd (events : List Event) (w v : World) (number name : ℕ) : Type 0 where
    pub ended : Open
    pub was_open : Contains (w.replica name).sessions ended
    pub message : Message
    pub there : message_at w.messages number ≡ Some message
    pub turn : IsTurnOf ended.session message.mail
    pub asker : ended.session.asker ≡ name
    pub asked : IsAskOf events ended.session ended.own ended.seen
    pub of : Snapshot
    pub shown : of ≡ shown_by w message.of message.mail
    pub context : DotValue → Bool
    pub snapshot : IsTakenOf events ended.session of.seen of.map context
    pub adds : v.seen name ≡ w.seen name ++ of.seen

  -- What that session fetched: unless two pages or values that it met have one SHA-256, whatever other sessions met, it took the snapshot's page at just
  -- each prefix where the maps differ, once, and it joins into the asker's live state what that of the answerer was then.
  pub record HasFetched (events : List Event) (w v : World) (number name : ℕ) (end : IsEnd events w v number name) : Type 0 where
    pub takings : List Taking
    pub pages : takings ≡ taken_with w end.message.mail
    pub met : v.closed ≡ w.closed ++ record { own = end.ended.own; theirs = end.of.map; takings = takings } ∷ []
    pub all : NoClash hash_of end.ended.own end.of.map takings → TookAll end.ended.own end.of.map end.ended.seen takings
    pub joins : NoClash hash_of end.ended.own end.of.map takings → (v.replica name).live ≡ join greater (w.replica name).live
        (end.snapshot.before.replica end.ended.session.answerer).live
