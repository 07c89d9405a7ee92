-- A replica by itself, to which messages come from anywhere: what it has seen and is to send, told as in a world. Of this project.
--
-- Each message comes with what it stands for: a delta with the operations that it carries, an opening with the snapshot that it opens, and any
-- other with nothing. So what the replica has seen is what it made and what these stand for.
use Rattle.std.specs.Prelude.{◌≡◌, ℕ, List, [], ◌∷◌, ◌++◌, map, Some}
use Rattle.op_model.specs.Meaning.{state}
use Rattle.op_model.specs.Operation.{Operation, NoReuse, has, known}
use Rattle.prefix_digest.specs.MapOf.{IsMapOf}
use Rattle.prefix_digest.specs.Page.{digest_at}
use Rattle.replica_model.specs.Answers.{IsToldBy}
use Rattle.replica_model.specs.Delivery.{Outcome}
use Rattle.replica_model.specs.History as history
use Rattle.replica_model.specs.History.{Entry}
use Rattle.replica_model.specs.Laws.{MeansMail}
use Rattle.replica_model.specs.Mail.{Mail, Delta, Hello, Opening, Ask, Page, Gone}
use Rattle.replica_model.specs.Replica.{Replica}
use Rattle.replica_model.specs.Step.{Act, Call, Do, Take, Answer, Came, IsStep}
use Rattle.replica_model.specs.World.{World, Message, Snapshot, message_at, nothing, calls, takes, goes, Unclashed}

-- what happens to it: a call, or a message with what that stands for
pub data Deed : Type 0 where
  Calls : Call → Deed
  Comes : Mail → Snapshot → Deed

-- as an act of a history, which tells nothing of what a message stands for
abbrev pub act_of : Deed → Act
act_of (Calls c) = Do c
act_of (Comes mail of) = Take mail

-- the operations that came
abbrev pub brought : List Deed → List Operation
brought [] = []
brought (Calls c ∷ deeds) = brought deeds
brought (Comes mail of ∷ deeds) = of.seen ++ brought deeds

module _ (hash_of : List ℕ → ℕ) where
  -- the message says just what it is said to stand for: a delta is the state of its operations, and an opening has the known dots and the root
  -- digest of a snapshot of what its sender had seen
  abbrev pub Says : Mail → Snapshot → Type 0
  Says (Delta d) of = d ≡ state of.seen
  Says (Hello s seen) of = Unit {0}
  Says (Opening s context root) of = IsMapOf of.map (state of.seen) × (context ≡ has (known of.seen)) × (root ≡ digest_at hash_of of.map [])
  Says (Ask s prefix) of = Unit {0}
  Says (Page s sent) of = Unit {0}
  Says (Gone s) of = Unit {0}

  abbrev pub AllSay : List Deed → Type 0
  AllSay [] = Unit {0}
  AllSay (Calls c ∷ deeds) = AllSay deeds
  AllSay (Comes mail of ∷ deeds) = Says mail of × AllSay deeds

  module _ (name : ℕ) where
    -- as an event of a world happens at the replica of this name (`Happens`), but that the message comes from anywhere
    abbrev pub Befalls : World → Deed → Answer → World → Type 0
    Befalls w (Calls c) answer v =
        (new : Replica) × (out : List Mail) × IsStep hash_of (w.replica name) (Do c) new answer out × (v ≡ goes name new out (w.outgoing name) (calls name c w))
    Befalls w (Comes mail of) answer v =
        (new : Replica) × (outcome : Outcome) × (out : List Mail) × (answer ≡ Came outcome) × IsStep hash_of (w.replica name) (Take mail) new answer out
        × (v ≡ goes name new out [] (takes name (w.replica name) mail of outcome w))

    -- after these deeds, from one world on
    abbrev pub RunsAlone : World → List Deed → World → Type 0
    RunsAlone w [] v = v ≡ w
    RunsAlone w (d ∷ ds) v = (answer : Answer) × (u : World) × Befalls w d answer u × RunsAlone u ds v

-- ---- the laws

-- for each history of a replica, whatever the messages in it are said to stand for, there is what it has seen by that
abbrev pub HistoriesAreSeen : Type 0
HistoriesAreSeen = (hash_of : List ℕ → ℕ) (name : ℕ) (entries : List Entry) (r : Replica) (deeds : List Deed)
    → history.IsAfter hash_of name entries r → map (λ (e : Entry). e.act) entries ≡ map act_of deeds
    → (w : World) × RunsAlone hash_of name nothing deeds w × (w.replica name ≡ r)

-- the replica holds the state of what it has seen and is to send that of what it made since it last sent, each message that it sent carries its set,
-- and its calls are answered by these sets
pub record IsMeantAlone (hash_of : List ℕ → ℕ) (w : World) (name : ℕ) : Type 0 where
  pub live : (w.replica name).live ≡ state (w.seen name)
  pub group : (w.replica name).group ≡ state (w.outgoing name)
  pub messages : (number : ℕ) (m : Message) → message_at w.messages number ≡ Some m → MeansMail hash_of m.mail m.of.seen
  pub calls : IsToldBy hash_of (w.replica name) name (w.seen name) (w.outgoing name)

-- The headline of one replica: where each message that came says what it stands for, no dot was used twice by these and by what the replica
-- made, and no pages or values clash that one of its sessions met.
abbrev pub HeadlineAlone : Type 0
HeadlineAlone = (hash_of : List ℕ → ℕ) (name : ℕ) (deeds : List Deed) (w : World) → RunsAlone hash_of name nothing deeds w
    → AllSay hash_of deeds → NoReuse (w.made ++ brought deeds) → Unclashed hash_of w → IsMeantAlone hash_of w name
