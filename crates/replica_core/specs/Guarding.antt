-- What tells that a name was used without its memory: a message knows a write of it that its replica does not know. Of this project.
use Rattle.std.specs.Prelude.{◌≡◌, ℕ, Bool, false, IsTrue, List, Some}
use Rattle.dots.specs.Dot.{DotValue}
use Rattle.replica_model.specs.Mail.{Mail, Delta, Hello, Opening, Ask, Page, Gone}
use Rattle.replica_model.specs.Replica.{Replica}
use Rattle.replica_model.specs.World.{World, Event, Message, message_at, nothing, Runs, Unclashed}

-- whether a message says that it knows the dot
abbrev pub knows : Mail → DotValue → Bool
knows (Delta d) = d.has
knows (Hello s seen) = seen
knows (Opening s context root) = context
knows (Ask s prefix) = λ dot. false
knows (Page s sent) = λ dot. false
knows (Gone s) = λ dot. false

-- the second set has a dot of this name that the first does not have
abbrev pub LacksOf : (DotValue → Bool) → (DotValue → Bool) → ℕ → Type 0
LacksOf own other name = (number : ℕ) × IsTrue (other (record { name = name; number = number })) × (own (record { name = name; number = number }) ≡ false)

-- the message knows a dot of the replica's name that the replica does not know
abbrev pub HasLost : Replica → Mail → Type 0
HasLost r mail = LacksOf r.live.has (knows mail) r.name

-- What a world's messages know is known to each replica of which they know it: unless pages or values met clash, none has lost its memory.
abbrev pub NoneHasLost : Type 0
NoneHasLost = (hash_of : List ℕ → ℕ) (events : List Event) (w : World) → Runs hash_of nothing events w → Unclashed hash_of w
    → (number name : ℕ) (m : Message) → message_at w.messages number ≡ Some m → ¬ HasLost (w.replica name) m.mail
