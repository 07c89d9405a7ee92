-- Replicas that crash, and come back from what was last saved of them. Told by what runs alone: the replicas, what is saved of each, and the
-- messages between them. Of this project; the rule that what is sent is saved first is that of a write-ahead log.
--
-- A crash takes away what its replica did since it was last saved, and that never happened: what runs is as after the events that are left, and so
-- all that holds of worlds over all lists of events holds of it.
use Rattle.std.specs.Prelude.{◌≡◌, ◌≢◌, ℕ, zero, suc, Bool, true, false, ◌==◌, ◌&&◌, List, [], ◌∷◌, ◌++◌, length, map, Option, Some, None, cond}
use Rattle.std.specs.List.{slice_get}
use Rattle.op_model.specs.World.{is_among}
use Rattle.replica_model.specs.Mail.{Mail}
use Rattle.replica_model.specs.Replica.{Replica, fresh, restarts}
use Rattle.replica_model.specs.Delivery.{Sent}
use Rattle.replica_model.specs.Step.{Call, Restart, Do, Take, Answer, Nothing, Came, IsStep}
use Rattle.replica_model.specs.Step as call
use Rattle.replica_model.specs.World.{World, Event, Node, At, Deliver, nothing}
use Rattle.replica_model.specs.Happened.{Happened, Leads}
use Rattle.replica_model.specs.Laws.{replica_of}

-- what runs, with what is saved of each replica
pub record System : Type 0 where
  pub nodes : List ℕ  -- the names of the replicas that are there
  pub replica : ℕ → Replica  -- by name
  pub saved : ℕ → Replica  -- by name, as it was when it was last saved
  pub messages : List Mail  -- from message 1 on

-- before anything happened
abbrev pub started : System
started = record { nodes = []; replica = fresh; saved = fresh; messages = [] }

-- an event whose replica is saved with it, before its messages go out; one whose replica is not saved, which sends nothing; a replica is saved; and
-- one crashes, and comes back
pub data Occurrence : Type 0 where
  Saving : Happened → Occurrence
  Passing : Happened → Occurrence
  Saves : ℕ → Occurrence
  Crashes : ℕ → Occurrence

-- the value at a name is another, and the message of this number
abbrev pub put : {X : Type 0} → (ℕ → X) → ℕ → X → ℕ → X
put f name x = λ n. cond (n == name) x (f n)

abbrev pub mail_at : List Mail → ℕ → Option Mail
mail_at ms zero = None
mail_at ms (suc n) = slice_get ms n

-- whether the peer of an ask is there
abbrev pub peer_in : List ℕ → Call → Bool
peer_in nodes (call.Ask peer) = is_among nodes peer
peer_in nodes other = true

-- the names that are there after an event
abbrev pub nodes_after : List ℕ → Event → List ℕ
nodes_after nodes (Node name) = nodes ++ name ∷ []
nodes_after nodes (At name c) = nodes
nodes_after nodes (Deliver number name) = nodes

module _ (hash_of : List ℕ → ℕ) where
  -- the event makes this of its replica, is answered this, and sends these
  abbrev pub Does : System → Event → Replica → Answer → List Mail → Type 0
  Does s (Node name) new answer out = (is_among s.nodes name ≡ false) × (new ≡ s.replica name) × (answer ≡ Nothing) × (out ≡ [])
  Does s (At name c) new answer out = (is_among s.nodes name ≡ true) × (peer_in s.nodes c ≡ true) × IsStep hash_of (s.replica name) (Do c) new answer out
  Does s (Deliver number name) new answer out =
      (is_among s.nodes name ≡ true) × ((mail : Mail) × (mail_at s.messages number ≡ Some mail) × IsStep hash_of (s.replica name) (Take mail) new answer out)

  -- the system after an event
  abbrev pub goes : System → Event → Replica → List Mail → System
  goes s e new out = record s { nodes = nodes_after s.nodes e; replica = put s.replica (replica_of e) new; messages = s.messages ++ out }

  -- What occurs. What is not saved sends nothing, and takes no synchronisation further.
  abbrev pub Occurs : System → Occurrence → System → Type 0
  Occurs s (Saving h) t =
      (new : Replica) × (out : List Mail) × Does s h.event new h.answer out × (length out ≡ h.sent)
      × (t ≡ record (goes s h.event new out) { saved = put s.saved (replica_of h.event) new })
  Occurs s (Passing h) t =
      (new : Replica) × Does s h.event new h.answer [] × (h.sent ≡ 0) × (h.answer ≢ Came Sent) × (t ≡ goes s h.event new [])
  Occurs s (Saves name) t = t ≡ record s { saved = put s.saved name (s.replica name) }
  Occurs s (Crashes name) t =
      (is_among s.nodes name ≡ true)
      × (t ≡ record s { replica = put s.replica name (restarts (s.saved name)); saved = put s.saved name (restarts (s.saved name)) })

  abbrev pub Goes : System → List Occurrence → System → Type 0
  Goes s [] t = t ≡ s
  Goes s (x ∷ xs) t = (u : System) × Occurs s x u × Goes u xs t

-- ---- what is left

-- What a replica did is lost where it crashes next, and is saved before that no more. At the end it is lost where `lost` says so.
abbrev pub is_lost : (ℕ → Bool) → ℕ → List Occurrence → Bool
is_lost lost name [] = lost name
is_lost lost name (Saving h ∷ xs) = cond (name == replica_of h.event) false (is_lost lost name xs)
is_lost lost name (Passing h ∷ xs) = is_lost lost name xs
is_lost lost name (Saves n ∷ xs) = cond (name == n) false (is_lost lost name xs)
is_lost lost name (Crashes n ∷ xs) = cond (name == n) true (is_lost lost name xs)

-- what may be lost; that a replica is there is not
abbrev pub may_be_lost : Event → Bool
may_be_lost (Node name) = false
may_be_lost other = true

abbrev pub unless_lost : Bool → Happened → List Happened
unless_lost lost h = cond (lost && may_be_lost h.event) [] (h ∷ [])

-- a replica that comes back from a crash restarts
abbrev pub restarted : ℕ → Happened
restarted name = record { event = At name Restart; answer = Nothing; sent = 0 }

abbrev pub left : (ℕ → Bool) → List Occurrence → List Happened
left lost [] = []
left lost (Saving h ∷ xs) = h ∷ left lost xs
left lost (Passing h ∷ xs) = unless_lost (is_lost lost (replica_of h.event) xs) h ++ left lost xs
left lost (Saves n ∷ xs) = left lost xs
left lost (Crashes n ∷ xs) = restarted n ∷ left lost xs

-- what is left: all but what a crash took away, with a restart for each crash
abbrev pub survivors : List Occurrence → List Happened
survivors xs = left (λ name. false) xs

-- the world is what runs
pub record Shows (w : World) (s : System) : Type 0 where
  pub nodes : w.nodes ≡ s.nodes
  pub replica : (name : ℕ) → w.replica name ≡ s.replica name
  pub messages : map (λ m. m.mail) w.messages ≡ s.messages

-- Whatever occurs, and whichever replicas crash, however often: what runs is the world to which what is left leads.
abbrev pub CrashesTakeBack : Type 0
CrashesTakeBack = (hash_of : List ℕ → ℕ) (xs : List Occurrence) (s : System) → Goes hash_of started xs s
    → (w : World) × Leads hash_of nothing (survivors xs) w × Shows w s
