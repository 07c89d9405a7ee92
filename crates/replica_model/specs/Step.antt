-- The step of one replica: what each call and each delivery makes of it, what it is answered, and what it sends; and when a call is
-- refused. Of this project, over the delta-mutators of Almeida, Shoker and Baquero, "Delta State Replicated Data Types" (2018).
use Rattle.std.specs.Prelude.{◌≡◌, ◌⊎◌, ◌↔◌, ℕ, ◌+◌, ◌≤◌, ◌<◌, ◌^◌, Bool, true, false, List, [], ◌∷◌, length, Option, Some, None, IsSome, IsTrue}
use Rattle.dots.specs.declared.dot.Dot.{Dot}
use Rattle.dots.specs.declared.refusal.Refusal.{Refusal}
use Rattle.dots.specs.declared.refusal.Refusal.TheVariants.{NumbersSpent, SessionsFull}
use Rattle.op_model.specs.Made.{erasure, IsNext, IsPutAt, IsWithin, IsAnywhere, Counts}
use Rattle.op_model.specs.Meaning.{MapState, state}
use Rattle.op_model.specs.Operation.{Write, Wrote}
use Rattle.op_model.specs.Operation as operation
use Rattle.op_model.specs.Place.{Place}
use Rattle.prefix_digest.specs.MapOf.{IsMapOf}
use Rattle.sync_model.specs.Differ.{Held}
use Rattle.replica_model.specs.Mail.{Mail, Delta, Hello}
use Rattle.replica_model.specs.Replica.{Replica, Open, Accepted, LIMIT, open_numbered, makes, flushed, next_session, opens, closes, restarts}
use Rattle.replica_model.specs.Delivery.{Outcome, Sent, Ignored, Turn, turn, asks_of, delivered}

-- the calls of a replica; a put that names no field is one at the empty field
pub data Call : Type 0 where
  Put : Place → List ℕ → Call
  Remove : List ℕ → Call  -- a key with all its fields
  RemoveField : Place → Call
  Clear : Call
  Flush : Call
  Ask : ℕ → Call  -- of a peer: a session is opened
  Retry : ℕ → Call  -- of a session's number
  Abandon : ℕ → Call
  Restart : Call  -- it comes back, from what was saved of it

pub data Act : Type 0 where
  Do : Call → Act
  Take : Mail → Act

pub data Answer : Type 0 where
  Nothing : Answer
  Made : Dot → Answer  -- the dot of a put
  Counted : ℕ → Answer  -- how many dots a remove or a clear observed
  Numbered : ℕ → Answer  -- the number of the session that was opened
  Came : Outcome → Answer
  Closed : Bool → Answer  -- whether there was a session to abandon

-- no dot is known
abbrev pub KnowsNone : MapState → Type 0
KnowsNone p = (dot : Dot) → p.has dot ≡ false

-- a removal of the dots that are as P says: of just these, however they are listed, and so many
abbrev pub Removes : (Dot → Type 0) → Replica → Replica → Answer → List Mail → Type 0
Removes P old new answer out =
    (over : List Dot) × ((dot : Dot) → IsTrue (operation.has over dot) ↔ P dot)
    × (new ≡ makes old (state (erasure over))) × ((n : ℕ) × Counts P n × (answer ≡ Counted n)) × (out ≡ [])

-- what a retry sends: the hello again where no opening was accepted, else an ask for each prefix that is waited for
abbrev pub again : Open → Option Accepted → List Mail
again o None = Hello o.session o.seen ∷ []
again o (Some a) = asks_of o.session a.fetch

abbrev pub retried : Replica → Option Open → Turn
retried r None = turn r Ignored []
retried r (Some o) = turn r Sent (again o o.accepted)

abbrev pub Abandons : Replica → Option Open → Replica → Answer → Type 0
Abandons old None new answer = (new ≡ old) × (answer ≡ Closed false)
Abandons old (Some o) new answer = (new ≡ closes old o.session) × (answer ≡ Closed true)

-- The step of a call: the old replica, the call, the new one, the answer and what is sent.
abbrev pub IsCall : Replica → Call → Replica → Answer → List Mail → Type 0
IsCall old (Put place value) new answer out =
    (w : Write) × IsPutAt old.live old.name place value w × (w.id.number < 2 ^ 64)
    × (new ≡ makes old (state (Wrote w ∷ []))) × (answer ≡ Made w.id) × (out ≡ [])
IsCall old (Remove key) new answer out = Removes (IsWithin old.live key) old new answer out
IsCall old (RemoveField place) new answer out = Removes (λ dot. IsSome (old.live.at place dot)) old new answer out
IsCall old Clear new answer out = Removes (IsAnywhere old.live) old new answer out
IsCall old Flush new answer out =
    (answer ≡ Nothing)
    × ((KnowsNone old.group × (new ≡ old) × (out ≡ [])) ⊎ ((¬ KnowsNone old.group) × (new ≡ flushed old) × (out ≡ Delta old.group ∷ [])))
IsCall old (Ask peer) new answer out =
    (own : Held) × IsMapOf own old.live × (length old.sessions < LIMIT) × (old.opened + 1 < 2 ^ 64)
    × (new ≡ opens old peer own) × (answer ≡ Numbered (old.opened + 1)) × (out ≡ Hello (next_session old peer) old.live.has ∷ [])
IsCall old (Retry number) new answer out =
    (new ≡ old) × (answer ≡ Came (retried old (open_numbered old.sessions number)).outcome) × (out ≡ (retried old (open_numbered old.sessions number)).replies)
IsCall old (Abandon number) new answer out = Abandons old (open_numbered old.sessions number) new answer × (out ≡ [])
IsCall old Restart new answer out = (new ≡ restarts old) × (answer ≡ Nothing) × (out ≡ [])

-- The step of an act. A delivery is by the table, with the map that stands for the live state: there is one at most.
module _ (hash_of : List ℕ → ℕ) where
  abbrev pub IsDelivery : Replica → Mail → Replica → Outcome → List Mail → Type 0
  IsDelivery old mail new outcome out = (own : Held) × IsMapOf own old.live × (delivered hash_of own old mail ≡ turn new outcome out)

  abbrev pub IsStep : Replica → Act → Replica → Answer → List Mail → Type 0
  IsStep old (Do call) new answer out = IsCall old call new answer out
  IsStep old (Take mail) new answer out = (outcome : Outcome) × (answer ≡ Came outcome) × IsDelivery old mail new outcome out

-- The refusals of a call, want of memory aside: a put where the next dot of the name is past the last number, and an ask where eight
-- own sessions are open or else no session's number is left. No other call and no delivery is refused.
abbrev pub Refuses : Replica → Call → Refusal → Type 0
Refuses old (Put place value) refusal = (dot : Dot) × IsNext old.name old.live.has dot × (2 ^ 64 ≤ dot.number) × (refusal ≡ NumbersSpent)
Refuses old (Ask peer) refusal =
    ((LIMIT ≤ length old.sessions) × (refusal ≡ SessionsFull))
    ⊎ ((length old.sessions < LIMIT) × (2 ^ 64 ≤ old.opened + 1) × (refusal ≡ NumbersSpent))
Refuses old (Remove key) refusal = ⊥
Refuses old (RemoveField place) refusal = ⊥
Refuses old Clear refusal = ⊥
Refuses old Flush refusal = ⊥
Refuses old (Retry number) refusal = ⊥
Refuses old (Abandon number) refusal = ⊥
Refuses old Restart refusal = ⊥
