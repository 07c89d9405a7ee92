-- A replica by itself has its limits, and each call of it and each delivery is carried out or refused. Of this project.
use Rattle.std.specs.Prelude.{◌≡◌, ◌⊎◌, ℕ, List, [], ◌∷◌, Bool, Some}
use Rattle.std.specs.List.{Contains}
use Rattle.dots.specs.Dot.{DotValue}
use Rattle.dots.specs.declared.dot.Dot.{Dot}
use Rattle.dots.specs.declared.refusal.Refusal.{Refusal}
use Rattle.op_model.specs.Meaning.{MapState}
use Rattle.op_model.specs.Operation.{has}
use Rattle.op_model.specs.Place.{Place}
use Rattle.op_model.specs.State.{IsInside}
use Rattle.wire_form.specs.Message.{MessageValue, Spells}
use Rattle.replica_model.specs.Alone.{Deed, Calls, Comes, Befalls, RunsAlone}
use Rattle.replica_model.specs.Laws.{IsWithinLimits}
use Rattle.replica_model.specs.Mail.{Mail, Delta, Hello, Opening, Ask, Page, Gone, mail_of}
use Rattle.replica_model.specs.Replica.{Replica}
use Rattle.replica_model.specs.Step.{Answer, Refuses}
use Rattle.replica_model.specs.World.{World, nothing}

-- ---- limits

-- at most eight own sessions are open and at most eight snapshots kept, and the sessions are numbered, whatever comes
abbrev pub WithinLimitsAlone : Type 0
WithinLimitsAlone = (hash_of : List ℕ → ℕ) (name : ℕ) (deeds : List Deed) (w : World) → RunsAlone hash_of name nothing deeds w
    → IsWithinLimits (w.replica name)

-- ---- what is finite

-- just the dots of some list are known
abbrev pub KnowsFew : (DotValue → Bool) → Type 0
KnowsFew known = (dots : List Dot) × ((dot : Dot) → known dot ≡ has dots dot)

-- a state shows values at the places of some list alone, and knows just the dots of some list, those of its values among them
pub record IsFiniteState (p : MapState) : Type 0 where
  pub places : List Place
  pub at : (place : Place) (dot : Dot) (value : List ℕ) → p.at place dot ≡ Some value → Contains places place
  pub dots : KnowsFew p.has
  pub inside : IsInside p

-- a message tells so much and no more: a delta is such a state, and an opening knows such dots
abbrev pub IsFiniteMail : Mail → Type 0
IsFiniteMail (Delta d) = IsFiniteState d
IsFiniteMail (Hello s known) = Unit {0}
IsFiniteMail (Opening s context root) = KnowsFew context
IsFiniteMail (Ask s prefix) = Unit {0}
IsFiniteMail (Page s sent) = Unit {0}
IsFiniteMail (Gone s) = Unit {0}

-- each message that has bytes is so
abbrev pub SpelledIsFinite : Type 0
SpelledIsFinite = (bytes : List ℕ) (message : MessageValue) → Spells bytes message → IsFiniteMail (mail_of message)

-- each message that came is so
abbrev pub CameFinite : List Deed → Type 0
CameFinite [] = Unit {0}
CameFinite (Calls c ∷ deeds) = CameFinite deeds
CameFinite (Comes mail of ∷ deeds) = IsFiniteMail mail × CameFinite deeds

-- ---- each deed

-- the refusals of a call are those of its step, and no delivery is refused
abbrev pub RefusesDeed : Replica → Deed → Refusal → Type 0
RefusesDeed r (Calls c) refusal = Refuses r c refusal
RefusesDeed r (Comes mail of) refusal = ⊥

-- After deeds whose messages were finite, forged ones among them, whatever clashed: each deed befalls the replica, or is refused. The message of that deed
-- itself may be any.
abbrev pub BefallOrAreRefused : Type 0
BefallOrAreRefused = (hash_of : List ℕ → ℕ) (name : ℕ) (deeds : List Deed) (w : World) → RunsAlone hash_of name nothing deeds w → CameFinite deeds
    → (d : Deed) → ((answer : Answer) × (v : World) × Befalls hash_of name w d answer v) ⊎ ((refusal : Refusal) × RefusesDeed (w.replica name) d refusal)

-- and none does both
abbrev pub RefusedDoesNotBefall : Type 0
RefusedDoesNotBefall = (hash_of : List ℕ → ℕ) (name : ℕ) (w v : World) (d : Deed) (answer : Answer) (refusal : Refusal)
    → RefusesDeed (w.replica name) d refusal → ¬ Befalls hash_of name w d answer v
