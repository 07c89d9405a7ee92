-- What a deed adds to what a replica by itself has seen. Of this project.
use Rattle.std.specs.Prelude.{◌≡◌, ◌≢◌, ℕ, Bool, List, [], ◌∷◌, ◌++◌, Option}
use Rattle.dots.specs.Dot.{DotValue}
use Rattle.op_model.specs.Meaning.{MapState}
use Rattle.op_model.specs.Operation.{Operation}
use Rattle.wire_form.specs.Session.{SessionValue}
use Rattle.replica_model.specs.Alone.{Deed, Calls, Comes, Befalls, RunsAlone}
use Rattle.replica_model.specs.Delivery.{Joined, Done}
use Rattle.replica_model.specs.Mail.{Mail, Delta, IsTurnOf}
use Rattle.replica_model.specs.SessionsAlone.{TookOpening}
use Rattle.replica_model.specs.Step.{Call, Answer, Came}
use Rattle.replica_model.specs.World.{World, Snapshot, nothing}

-- How a message ends a session with Done: it is an opening or a page of the session, and an opening of the session was taken, this message or one
-- before. After it the replica has seen just what it had seen before it, and the operations that this opening stands for.
pub record AddsOpening (hash_of : List ℕ → ℕ) (name : ℕ) (deeds : List Deed) (w v : World) (mail : Mail) (of : Snapshot) : Type 0 where
  pub session : SessionValue
  pub turn : IsTurnOf session mail
  pub context : DotValue → Bool
  pub root : Option (List ℕ)
  pub opening : TookOpening hash_of name (deeds ++ Comes mail of ∷ []) session context root
  pub adds : v.seen name ≡ w.seen name ++ opening.of.seen

-- ---- the laws

abbrev pub EndsAddAlone : Type 0
EndsAddAlone = (hash_of : List ℕ → ℕ) (name : ℕ) (deeds : List Deed) (w v : World) (mail : Mail) (of : Snapshot) → RunsAlone hash_of name nothing deeds w
    → (answer : Answer) → Befalls hash_of name w (Comes mail of) answer v → answer ≡ Came Done → AddsOpening hash_of name deeds w v mail of

-- one that is joined is a delta, and adds the operations that it carries
abbrev pub JoinsAddAlone : Type 0
JoinsAddAlone = (hash_of : List ℕ → ℕ) (name : ℕ) (w v : World) (mail : Mail) (of : Snapshot) (answer : Answer)
    → Befalls hash_of name w (Comes mail of) answer v → answer ≡ Came Joined → ((d : MapState) × (mail ≡ Delta d)) × (v.seen name ≡ w.seen name ++ of.seen)

-- one that is answered otherwise adds nothing
abbrev pub OthersAddNothingAlone : Type 0
OthersAddNothingAlone = (hash_of : List ℕ → ℕ) (name : ℕ) (w v : World) (mail : Mail) (of : Snapshot) (answer : Answer)
    → Befalls hash_of name w (Comes mail of) answer v → answer ≢ Came Done → answer ≢ Came Joined → v.seen name ≡ w.seen name

-- and a call adds what it makes
abbrev pub CallsAddAlone : Type 0
CallsAddAlone = (hash_of : List ℕ → ℕ) (name : ℕ) (w v : World) (c : Call) (answer : Answer) → Befalls hash_of name w (Calls c) answer v
    → (more : List Operation) × (v.made ≡ w.made ++ more) × (v.seen name ≡ w.seen name ++ more)
