-- The headline of a replica by itself, to which forged messages come besides: only a message that is taken has to say what it stands for. Of this project.
use Rattle.std.specs.Prelude.{◌≡◌, ℕ, Bool, true, false, List, [], ◌∷◌, ◌++◌, cond}
use Rattle.op_model.specs.Operation.{Operation, NoReuse, IsSameSet}
use Rattle.replica_model.specs.Alone.{Deed, Calls, Comes, Says, RunsAlone, IsMeantAlone}
use Rattle.replica_model.specs.Delivery.{Joined, Sent, Done}
use Rattle.replica_model.specs.Laws.{HoldTheSame}
use Rattle.replica_model.specs.Mail.{Mail, Delta, Opening}
use Rattle.replica_model.specs.Step.{Answer, Came}
use Rattle.replica_model.specs.World.{World, Snapshot, nothing, Unclashed}

-- a delivery with this answer took its message in: one that is ignored, or does not fit, is not taken
abbrev pub is_taken : Answer → Bool
is_taken (Came Joined) = true
is_taken (Came Sent) = true
is_taken (Came Done) = true
is_taken other = false

-- what a message brings that is taken: the operations of a delta, and those of the snapshot of an opening
abbrev pub brings : Mail → Snapshot → List Operation
brings (Delta d) of = of.seen
brings (Opening s context root) of = of.seen
brings other of = []

module _ (hash_of : List ℕ → ℕ) (name : ℕ) where
  -- each message that was taken, of these deeds, says what it is said to stand for
  abbrev pub TakenSay : (deeds : List Deed) (w v : World) → RunsAlone hash_of name w deeds v → Type 0
  TakenSay [] w v runs = Unit {0}
  TakenSay (Calls c ∷ deeds) w v (answer, u, befalls, rest) = TakenSay deeds u v rest
  TakenSay (Comes mail of ∷ deeds) w v (answer, u, befalls, rest) = (is_taken answer ≡ true → Says hash_of mail of) × TakenSay deeds u v rest

  -- the operations that came with those
  abbrev pub brought_taken : (deeds : List Deed) (w v : World) → RunsAlone hash_of name w deeds v → List Operation
  brought_taken [] w v runs = []
  brought_taken (Calls c ∷ deeds) w v (answer, u, befalls, rest) = brought_taken deeds u v rest
  brought_taken (Comes mail of ∷ deeds) w v (answer, u, befalls, rest) = cond (is_taken answer) (brings mail of) [] ++ brought_taken deeds u v rest

-- Where each message that was taken says what it stands for, no dot was used twice by these and by what the replica made, and no pages or values clash that
-- one of its sessions met: the replica holds the state of what it has seen. Whatever it ignored, and what did not fit, may have said anything.
abbrev pub HeadlineTakenAlone : Type 0
HeadlineTakenAlone = (hash_of : List ℕ → ℕ) (name : ℕ) (deeds : List Deed) (w : World) (runs : RunsAlone hash_of name nothing deeds w)
    → TakenSay hash_of name deeds nothing w runs → NoReuse (w.made ++ brought_taken hash_of name deeds nothing w runs) → Unclashed hash_of w
    → IsMeantAlone hash_of w name

-- replicas by themselves that hold what they have seen, and have seen the same, hold the same
abbrev pub SameSeenAlone : Type 0
SameSeenAlone = (hash_of : List ℕ → ℕ) (a b : ℕ) (w v : World) → IsMeantAlone hash_of w a → IsMeantAlone hash_of v b
    → IsSameSet (w.seen a) (v.seen b) → HoldTheSame hash_of (w.replica a) (v.replica b)
