-- The laws of one replica's step, and of worlds over all lists of events. Of this project. A law is proved where a function of src/
-- names it.
use Rattle.std.specs.Prelude.{◌≡◌, ◌≢◌, ◌⊎◌, ℕ, ◌≤◌, ◌<◌, ◌^◌, Bool, false, List, [], ◌∷◌, ◌++◌, Option, Some, None, length}
use Rattle.std.specs.FinMap as finite
use Rattle.dots.specs.Dot.{DotValue}
use Rattle.std.specs.List.{Contains}
use Rattle.dots.specs.declared.refusal.Refusal.{Refusal}
use Rattle.op_model.specs.Meaning.{state}
use Rattle.op_model.specs.Operation.{Operation, IsPartOf, IsSameSet, has, known}
use Rattle.op_model.specs.World as sets
use Rattle.wire_form.specs.Sent.{SentValue}
use Rattle.wire_form.specs.Session.{SessionValue}
use Rattle.prefix_digest.specs.MapOf.{IsMapOf, root_digest}
use Rattle.wire_form.specs.Page.{PageValue}
use Rattle.prefix_digest.specs.Page.{page_at, digest_at}
use Rattle.prefix_digest.specs.Values.{unknown_at}
use Rattle.sync_model.specs.Laws.{TakenAt, NoClash}
use Rattle.sync_model.specs.Differ.{Held, Differ, Waits}
use Rattle.replica_model.specs.Mail.{Mail, Delta, Hello, Opening, Ask, Page, Gone}
use Rattle.replica_model.specs.Replica.{Replica, Open, Accepted, Kept, LIMIT, open_at, kept_at}
use Rattle.replica_model.specs.Delivery.{Outcome, Sent, Done, Ignored, Mismatch}
use Rattle.replica_model.specs.Step.{Call, Put, Remove, RemoveField, Clear, Flush, Retry, Abandon, Restart, Do, Take, Act, Answer, Came, IsStep, Refuses}
use Rattle.replica_model.specs.Step as step
use Rattle.replica_model.specs.World.{World, Event, Node, At, Deliver, Message, sets_of}
use Rattle.replica_model.specs.World.{is_node, message_at, no_snapshot, taking_of, nothing, Happens, RefusesEvent, Runs, Unclashed}
use Rattle.replica_model.specs.Sessions.{IsTakenOf, IsAskOf, IsSession, IsEnd, HasFetched}

-- ---- one

-- the new replica, the answer and what is sent are the only ones
pub record IsOneTurn (new new' : Replica) (answer answer' : Answer) (out out' : List Mail) : Type 0 where
  pub replica : new ≡ new'
  pub answers : answer ≡ answer'
  pub sent : out ≡ out'

-- a step decides them
abbrev pub StepsAreOne : Type 0
StepsAreOne = (hash_of : List ℕ → ℕ) (old new new' : Replica) (act : Act) (answer answer' : Answer) (out out' : List Mail)
    → IsStep hash_of old act new answer out → IsStep hash_of old act new' answer' out' → IsOneTurn new new' answer answer' out out'

-- a call that is refused makes no step
abbrev pub RefusedMakesNone : Type 0
RefusedMakesNone = (hash_of : List ℕ → ℕ) (old new : Replica) (c : Call) (answer : Answer) (out : List Mail) (refusal : Refusal)
    → Refuses old c refusal → ¬ IsStep hash_of old (Do c) new answer out

-- events decide the world
abbrev pub WorldsAreOne : Type 0
WorldsAreOne = (hash_of : List ℕ → ℕ) (events : List Event) (w v : World) → Runs hash_of nothing events w → Runs hash_of nothing events v → w ≡ v

abbrev pub EventsAreOne : Type 0
EventsAreOne = (hash_of : List ℕ → ℕ) (w v v' : World) (e : Event) (answer answer' : Answer)
    → Happens hash_of w e answer v → Happens hash_of w e answer' v' → (answer ≡ answer') × (v ≡ v')

-- an event that is refused does not happen
abbrev pub RefusedDoesNotHappen : Type 0
RefusedDoesNotHappen = (hash_of : List ℕ → ℕ) (w v : World) (e : Event) (answer : Answer) (refusal : Refusal)
    → RefusesEvent w e refusal → ¬ Happens hash_of w e answer v

-- a list of events goes on by one
abbrev pub RunsGoOn : Type 0
RunsGoOn = (hash_of : List ℕ → ℕ) (events : List Event) (w v : World) (e : Event) (answer : Answer)
    → Runs hash_of nothing events w → Happens hash_of w e answer v → Runs hash_of nothing (events ++ e ∷ []) v

-- ---- sound, whatever clashes

-- what was seen, is to be sent or is in a message was made, and so was what was kept and accepted; no dot was used twice
pub record IsSound (w : World) : Type 0 where
  pub sets : sets.IsSound (sets_of w)
  pub kept : (s : SessionValue) → IsPartOf (w.kept s) w.made
  pub accepted : (s : SessionValue) → IsPartOf (w.accepted s).seen w.made

abbrev pub Sound : Type 0
Sound = (hash_of : List ℕ → ℕ) (events : List Event) (w : World) → Runs hash_of nothing events w → IsSound w

-- ---- sessions, each by itself

-- whatever clashes: each open session of a replica stands for an ask, and for the snapshot of its peer
abbrev pub Sessions : Type 0
Sessions = (hash_of : List ℕ → ℕ) (events : List Event) (w : World) → Runs hash_of nothing events w
    → (name : ℕ) (o : Open) → Contains (w.replica name).sessions o → IsSession hash_of events w name o

-- each opening is that of a snapshot, and carries what its answerer had seen then
pub record CarriesSnapshot (hash_of : List ℕ → ℕ) (events : List Event) (m : Message) (s : SessionValue) (context : DotValue → Bool)
    (root : Option (List ℕ)) : Type 0 where
  pub snapshot : IsTakenOf hash_of events s m.of.seen m.of.map context
  pub digest : root ≡ digest_at hash_of m.of.map []

abbrev pub Openings : Type 0
Openings = (hash_of : List ℕ → ℕ) (events : List Event) (w : World) → Runs hash_of nothing events w
    → (number : ℕ) (m : Message) → message_at w.messages number ≡ Some m
    → (s : SessionValue) (context : DotValue → Bool) (root : Option (List ℕ)) → m.mail ≡ Opening s context root
    → CarriesSnapshot hash_of events m s context root

-- a synchronisation that ends adds just what its peer had seen when it opened
abbrev pub Ends : Type 0
Ends = (hash_of : List ℕ → ℕ) (events : List Event) (w v : World) (number name : ℕ) → Runs hash_of nothing events w
    → (answer : Answer) → Happens hash_of w (Deliver number name) answer v → answer ≡ Came Done
    → (end : IsEnd hash_of events w v number name) × HasFetched hash_of events w v number name end

-- ---- what replicas hold

-- what a message means: a delta its operations, an opening what was seen of its snapshot
abbrev pub MeansMail : (List ℕ → ℕ) → Mail → List Operation → Type 0
MeansMail hash_of (Delta d) S = d ≡ state S
MeansMail hash_of (Hello s seen) S = Unit {0}
MeansMail hash_of (Opening s context root) S = (context ≡ has (known S)) × (root ≡ root_digest hash_of S)
MeansMail hash_of (Ask s prefix) S = Unit {0}
MeansMail hash_of (Page s sent) S = Unit {0}
MeansMail hash_of (Gone s) S = Unit {0}

-- each replica holds the state of what it has seen and is to send that of what it made since it last sent, and each message carries its set
pub record IsMeant (hash_of : List ℕ → ℕ) (w : World) : Type 0 where
  pub live : (name : ℕ) → (w.replica name).live ≡ state (w.seen name)
  pub group : (name : ℕ) → (w.replica name).group ≡ state (w.outgoing name)
  pub messages : (number : ℕ) (m : Message) → message_at w.messages number ≡ Some m → MeansMail hash_of m.mail m.of.seen

-- the headline, over all lists of events: unless pages or values met clash
abbrev pub Headline : Type 0
Headline = (hash_of : List ℕ → ℕ) (events : List Event) (w : World) → Runs hash_of nothing events w → Unclashed hash_of w → IsMeant hash_of w

-- replicas that have seen the same hold the same
pub record HoldTheSame (hash_of : List ℕ → ℕ) (r q : Replica) : Type 0 where
  pub live : r.live ≡ q.live
  pub one_map : (m n : Held) → IsMapOf m r.live → IsMapOf n q.live → m ≡ n
  pub digests : (m n : Held) → IsMapOf m r.live → IsMapOf n q.live → (prefix : List ℕ) → digest_at hash_of m prefix ≡ digest_at hash_of n prefix

abbrev pub SameSeen : Type 0
SameSeen = (hash_of : List ℕ → ℕ) (events : List Event) (w : World) → Runs hash_of nothing events w → Unclashed hash_of w
    → (a b : ℕ) → IsSameSet (w.seen a) (w.seen b) → HoldTheSame hash_of (w.replica a) (w.replica b)

-- ---- each event

-- In every world that a list of events leads to, whatever clashed, each event happens, or is refused. (That none does both is
-- RefusedDoesNotHappen.)
abbrev pub HappenOrAreRefused : Type 0
HappenOrAreRefused = (hash_of : List ℕ → ℕ) (events : List Event) (w : World) → Runs hash_of nothing events w
    → (e : Event) → ((answer : Answer) × (v : World) × Happens hash_of w e answer v) ⊎ ((refusal : Refusal) × RefusesEvent w e refusal)

-- the name of the replica at which an event happens
abbrev pub replica_of : Event → ℕ
replica_of (Node name) = name
replica_of (At name c) = name
replica_of (Deliver number name) = name

-- what an event at a replica leaves: each other replica, with what it has seen and is to send; and it adds to the messages and the names,
-- at their end
pub record Leaves (w v : World) (name : ℕ) : Type 0 where
  pub replicas : (n : ℕ) → n ≢ name → v.replica n ≡ w.replica n
  pub seen : (n : ℕ) → n ≢ name → v.seen n ≡ w.seen n
  pub outgoing : (n : ℕ) → n ≢ name → v.outgoing n ≡ w.outgoing n
  pub messages : (more : List Message) × (v.messages ≡ w.messages ++ more)
  pub nodes : (more : List ℕ) × (v.nodes ≡ w.nodes ++ more)

abbrev pub EventsLeave : Type 0
EventsLeave = (hash_of : List ℕ → ℕ) (w v : World) (e : Event) (answer : Answer) → Happens hash_of w e answer v → Leaves w v (replica_of e)

-- a replica that is not there has seen nothing, and is to send nothing
abbrev pub AbsentHaveSeenNothing : Type 0
AbsentHaveSeenNothing = (hash_of : List ℕ → ℕ) (events : List Event) (w : World) → Runs hash_of nothing events w
    → (name : ℕ) → is_node w name ≡ false → (w.seen name ≡ []) × (w.outgoing name ≡ [])

-- ---- limits

-- the numbers of these sessions ascend, all above the first number and none above the last
abbrev pub AreNumbered : ℕ → List Open → ℕ → Type 0
AreNumbered above [] last = above ≤ last
AreNumbered above (o ∷ os) last = (above < o.session.number) × AreNumbered o.session.number os last

pub record IsWithinLimits (r : Replica) : Type 0 where
  pub sessions : length r.sessions ≤ LIMIT
  pub kept : length r.kept ≤ LIMIT
  pub numbered : AreNumbered 0 r.sessions r.opened
  pub opened : r.opened < 2 ^ 64

abbrev pub StayWithinLimits : Type 0
StayWithinLimits = (hash_of : List ℕ → ℕ) (events : List Event) (w : World) → Runs hash_of nothing events w
    → (name : ℕ) → IsWithinLimits (w.replica name)

-- ---- snapshots, openings and pages

-- a snapshot is kept for the hello of its session, which told what the asker knew when it asked; and it is what its replica was when it kept it,
-- whatever that wrote since
pub record IsKeptFor (hash_of : List ℕ → ℕ) (events : List Event) (w : World) (name : ℕ) (k : Kept) : Type 0 where
  pub answerer : k.session.answerer ≡ name
  pub number : ℕ
  pub message : Message
  pub there : message_at w.messages number ≡ Some message
  pub hello : message.mail ≡ Hello k.session k.seen
  pub own : Held
  pub asked : IsAskOf hash_of events k.session own k.seen
  pub taken : IsTakenOf hash_of events k.session (w.kept k.session) k.map k.context

abbrev pub SnapshotsAreFor : Type 0
SnapshotsAreFor = (hash_of : List ℕ → ℕ) (events : List Event) (w : World) → Runs hash_of nothing events w
    → (name : ℕ) (k : Kept) → Contains (w.replica name).kept k → IsKeptFor hash_of events w name k

-- a session has one ask among the events: one own map, and one context of what its asker knew
abbrev pub AsksAreOne : Type 0
AsksAreOne = (hash_of : List ℕ → ℕ) (events : List Event) (s : SessionValue) (own own' : Held) (known known' : DotValue → Bool)
    → IsAskOf hash_of events s own known → IsAskOf hash_of events s own' known' → (own ≡ own') × (known ≡ known')

-- so what is kept for an open session goes by just the dots that the session was opened with: the values that an ask is told are those that
-- its asker wants
abbrev pub SnapshotsKnowWhatWasAsked : Type 0
SnapshotsKnowWhatWasAsked = (hash_of : List ℕ → ℕ) (events : List Event) (w : World) → Runs hash_of nothing events w
    → (asker answerer : ℕ) (o : Open) (k : Kept) → Contains (w.replica asker).sessions o → Contains (w.replica answerer).kept k
    → k.session ≡ o.session → o.seen ≡ k.seen

-- an act is of an open session: it takes in what is for the asker of that session, or gives the session up; a restart is of each
abbrev pub IsOfOpen : Open → Act → Type 0
IsOfOpen o (Take (Delta d)) = ⊥
IsOfOpen o (Take (Hello s known)) = ⊥
IsOfOpen o (Take (Opening s context root)) = o.session ≡ s
IsOfOpen o (Take (Ask s prefix)) = ⊥
IsOfOpen o (Take (Page s sent)) = o.session ≡ s
IsOfOpen o (Take (Gone s)) = o.session ≡ s
IsOfOpen o (Do (Put place value)) = ⊥
IsOfOpen o (Do (Remove key)) = ⊥
IsOfOpen o (Do (RemoveField place)) = ⊥
IsOfOpen o (Do Clear) = ⊥
IsOfOpen o (Do Flush) = ⊥
IsOfOpen o (Do (step.Ask peer)) = ⊥
IsOfOpen o (Do (Retry number)) = ⊥
IsOfOpen o (Do (Abandon number)) = number ≡ o.session.number
IsOfOpen o (Do Restart) = Unit {0}

-- a step leaves each open session as it is, its own map, what it had seen, the opening that it accepted and what it fetched, but the one that it is of
abbrev pub SessionsStay : Type 0
SessionsStay = (hash_of : List ℕ → ℕ) (old new : Replica) (act : Act) (answer : Answer) (out : List Mail) → IsStep hash_of old act new answer out
    → (o : Open) → Contains old.sessions o → ¬ IsOfOpen o act → Contains new.sessions o

-- an act has a snapshot kept: it takes in the hello of a session for which none was kept
abbrev pub IsNewFor : Replica → Act → Kept → Type 0
IsNewFor old (Take (Hello s known)) k = (k.session ≡ s) × (kept_at old.kept s ≡ None)
IsNewFor old (Take (Delta d)) k = ⊥
IsNewFor old (Take (Opening s context root)) k = ⊥
IsNewFor old (Take (Ask s prefix)) k = ⊥
IsNewFor old (Take (Page s sent)) k = ⊥
IsNewFor old (Take (Gone s)) k = ⊥
IsNewFor old (Do call) k = ⊥

-- a step changes no kept snapshot: each that is kept afterwards was kept before, or is that of the hello that it took in
abbrev pub SnapshotsStay : Type 0
SnapshotsStay = (hash_of : List ℕ → ℕ) (old new : Replica) (act : Act) (answer : Answer) (out : List Mail) → IsStep hash_of old act new answer out
    → (k : Kept) → Contains new.kept k → Contains old.kept k ⊎ IsNewFor old act k

-- a step drops this snapshot: it was the oldest where eight were kept, and a ninth is kept now
pub record IsDropped (old new : Replica) (act : Act) (k : Kept) : Type 0 where
  pub full : LIMIT ≤ length old.kept
  pub others : List Kept
  pub oldest : old.kept ≡ k ∷ others
  pub ninth : Kept
  pub is_new : IsNewFor old act ninth
  pub newest : new.kept ≡ others ++ ninth ∷ []

-- all that a step can do to a kept snapshot is to drop it so, or with all others where the replica restarts
abbrev pub OldestAreDropped : Type 0
OldestAreDropped = (hash_of : List ℕ → ℕ) (old new : Replica) (act : Act) (answer : Answer) (out : List Mail) → IsStep hash_of old act new answer out
    → (k : Kept) → Contains old.kept k → Contains new.kept k ⊎ (IsDropped old new act k ⊎ (act ≡ Do Restart))

-- a delivery was taken: it is answered Done where its session has all by that, and else Sent
abbrev pub IsDoneElseSent : Answer → Type 0 → Type 0
IsDoneElseSent answer HasAll = ((answer ≡ Came Done) × HasAll) ⊎ ((answer ≡ Came Sent) × (¬ HasAll))

-- An open session that accepted no opening takes each opening of it, with Done where the maps differ nowhere, unless pages or values of the two
-- maps clash, whatever other sessions met.
abbrev pub TakesOpenings : Type 0
TakesOpenings = (hash_of : List ℕ → ℕ) (events : List Event) (w : World) → Runs hash_of nothing events w
    → (number name : ℕ) (m : Message) (s : SessionValue) (context : DotValue → Bool) (root : Option (List ℕ)) (o : Open)
    → message_at w.messages number ≡ Some m → m.mail ≡ Opening s context root → open_at (w.replica name).sessions s ≡ Some o → o.accepted ≡ None
    → NoClash hash_of o.own m.of.map [] → (answer : Answer) (v : World) → Happens hash_of w (Deliver number name) answer v
    → IsDoneElseSent answer ((p digest : List ℕ) → ¬ Differ hash_of o.own m.of.map p digest)

-- a page of a map, as it is sent to who knows these dots
abbrev pub sent_of : (DotValue → Bool) → (List ℕ → ℕ) → Held → List ℕ → PageValue → SentValue
sent_of known hash_of m p page = record { prefix = p; values = unknown_at known hash_of m p; page = page }

-- One that accepted an opening takes, at each prefix that it waits for, the page of that snapshot with the values that it had not seen, with Done
-- where nothing is waited for after it, unless pages or values that the session itself met clash; and the snapshot has such a page.
abbrev pub TakesPages : Type 0
TakesPages = (hash_of : List ℕ → ℕ) (events : List Event) (w : World) → Runs hash_of nothing events w
    → (name : ℕ) (s : SessionValue) (o : Open) (a : Accepted) → open_at (w.replica name).sessions s ≡ Some o → o.accepted ≡ Some a
    → NoClash hash_of o.own (w.accepted s).map (w.taken s) → (p digest : List ℕ) → finite.get a.fetch.waiting p ≡ Some digest
    → (page : PageValue) × (page_at hash_of (w.accepted s).map p ≡ Some page)
    × ((number : ℕ) (m : Message) → message_at w.messages number ≡ Some m → let sent = sent_of o.seen hash_of (w.accepted s).map p page in m.mail ≡ Page s sent
    → (answer : Answer) (v : World) → Happens hash_of w (Deliver number name) answer v
    → IsDoneElseSent answer ((q d : List ℕ) → ¬ Waits hash_of o.own (w.accepted s).map (TakenAt (taking_of sent ∷ w.taken s)) q d))

-- what came is a page of a map, as it is sent to who knows these dots
abbrev pub IsPageOf : (DotValue → Bool) → (List ℕ → ℕ) → Held → SentValue → Type 0
IsPageOf known hash_of m sent = (page_at hash_of m sent.prefix ≡ Some sent.page) × (sent.values ≡ unknown_at known hash_of m sent.prefix)

-- a delivery is so answered and no more: the replica is what it was, and nothing is sent
pub record IsOnlyAnswered (outcome : Outcome) (old new : Replica) (answer : Answer) (out : List Mail) : Type 0 where
  pub answers : answer ≡ Came outcome
  pub replica : new ≡ old
  pub sends : out ≡ []

-- Any other page at a prefix that an open session waits for, from anywhere, is answered Mismatch and no more, unless pages or values clash that the
-- session itself met, with those of this page.
abbrev pub OtherPagesMismatch : Type 0
OtherPagesMismatch = (hash_of : List ℕ → ℕ) (events : List Event) (w : World) → Runs hash_of nothing events w
    → (name : ℕ) (s : SessionValue) (o : Open) (a : Accepted) → open_at (w.replica name).sessions s ≡ Some o → o.accepted ≡ Some a
    → (sent : SentValue) (digest : List ℕ) → finite.get a.fetch.waiting sent.prefix ≡ Some digest
    → NoClash hash_of o.own (w.accepted s).map (taking_of sent ∷ w.taken s) → ¬ IsPageOf o.seen hash_of (w.accepted s).map sent
    → (new : Replica) (answer : Answer) (out : List Mail) → IsStep hash_of (w.replica name) (Take (Page s sent)) new answer out
    → IsOnlyAnswered Mismatch (w.replica name) new answer out

-- a replica waits for the page of a session at this prefix: the session is open, and accepted an opening
abbrev pub AwaitsPage : Replica → SessionValue → List ℕ → Type 0
AwaitsPage r s p =
    (o : Open) × (a : Accepted) × (digest : List ℕ) × (open_at r.sessions s ≡ Some o) × (o.accepted ≡ Some a) × (finite.get a.fetch.waiting p ≡ Some digest)

-- where it waits for none, each page is answered Ignored and no more: by its step alone, whatever clashes
abbrev pub PagesElsewhereAreIgnored : Type 0
PagesElsewhereAreIgnored = (hash_of : List ℕ → ℕ) (old new : Replica) (s : SessionValue) (sent : SentValue) (answer : Answer) (out : List Mail)
    → IsStep hash_of old (Take (Page s sent)) new answer out → ¬ AwaitsPage old s sent.prefix → IsOnlyAnswered Ignored old new answer out

-- an ask is told the page of the kept snapshot, with the values that the asker had not seen, by what its hello told
abbrev pub TellsPages : Type 0
TellsPages = (hash_of : List ℕ → ℕ) (events : List Event) (w : World) → Runs hash_of nothing events w
    → (number name : ℕ) (m : Message) (s : SessionValue) (p : List ℕ) (k : Kept) (page : PageValue)
    → message_at w.messages number ≡ Some m → m.mail ≡ Ask s p → kept_at (w.replica name).kept s ≡ Some k → page_at hash_of k.map p ≡ Some page
    → (answer : Answer) (v : World) → Happens hash_of w (Deliver number name) answer v
    → (answer ≡ Came Sent)
    × (v.messages ≡ w.messages ++ record { mail = Page s (sent_of k.seen hash_of k.map p page); of = no_snapshot } ∷ [])
