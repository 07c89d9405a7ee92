-- The deltas that wait to be sent, the oldest first: their join is the group of the replica. Of this project; groups of deltas are those of Almeida,
-- Shoker and Baquero, "Delta State Replicated Data Types" (2018).
use Rattle.std.specs.Prelude.{◌≡◌, ◌⊎◌, ◌↔◌, ◌≤◌, ℕ, List, [], ◌∷◌, ◌++◌, fold, length, IsSome, IsTrue}
use Rattle.dots.specs.declared.dot.Dot.{Dot}
use Rattle.op_model.specs.Made.{erasure, IsPutAt, IsWithin, IsAnywhere}
use Rattle.op_model.specs.Meaning.{MapState, greater, state}
use Rattle.op_model.specs.Operation.{Write, Wrote}
use Rattle.op_model.specs.Operation as operation
use Rattle.op_model.specs.State.{join}
use Rattle.replica_model.specs.Mail.{Mail, Delta}
use Rattle.replica_model.specs.Replica.{Replica}
use Rattle.replica_model.specs.Step.{Act, Do, Take, Call, Put, Remove, RemoveField, Clear, Flush, Ask, Retry, Abandon, Restart, KnowsNone}

-- the join of these deltas
abbrev pub all_of : List MapState → MapState
all_of deltas = fold (λ group delta. join greater group delta) (state []) deltas

-- a delta takes away just the dots that are as P says
abbrev pub Erases : (Dot → Type 0) → MapState → Type 0
Erases P delta = (over : List Dot) × ((dot : Dot) → IsTrue (operation.has over dot) ↔ P dot) × (delta ≡ state (erasure over))

-- the delta of a write, as the replica makes it; other calls make none
abbrev pub IsDeltaOf : Replica → Call → MapState → Type 0
IsDeltaOf r (Put place value) delta = (w : Write) × IsPutAt r.live r.name place value w × (delta ≡ state (Wrote w ∷ []))
IsDeltaOf r (Remove key) delta = Erases (IsWithin r.live key) delta
IsDeltaOf r (RemoveField place) delta = Erases (λ dot. IsSome (r.live.at place dot)) delta
IsDeltaOf r Clear delta = Erases (IsAnywhere r.live) delta
IsDeltaOf r Flush delta = ⊥
IsDeltaOf r (Ask peer) delta = ⊥
IsDeltaOf r (Retry number) delta = ⊥
IsDeltaOf r (Abandon number) delta = ⊥
IsDeltaOf r Restart delta = ⊥

-- where fewer wait, none are joined
abbrev pub MANY : ℕ
MANY = 1024

-- A delta comes behind those that wait, and where many do all may be joined into one then; one that knows no dot need not come.
abbrev pub Queues : List MapState → MapState → List MapState → Type 0
Queues old delta new =
    (new ≡ old ++ delta ∷ []) ⊎ (((MANY ≤ length old) × (new ≡ all_of (old ++ delta ∷ []) ∷ [])) ⊎ (KnowsNone delta × (new ≡ old)))

-- What waits after an act: a write adds its own delta; after a flush none is left; a restart leaves them joined into one; all else leaves them.
abbrev pub Waits : Replica → Act → List MapState → List MapState → Type 0
Waits r (Do (Put place value)) old new = (delta : MapState) × IsDeltaOf r (Put place value) delta × Queues old delta new
Waits r (Do (Remove key)) old new = (delta : MapState) × IsDeltaOf r (Remove key) delta × Queues old delta new
Waits r (Do (RemoveField place)) old new = (delta : MapState) × IsDeltaOf r (RemoveField place) delta × Queues old delta new
Waits r (Do Clear) old new = (delta : MapState) × IsDeltaOf r Clear delta × Queues old delta new
Waits r (Do Flush) old new = (KnowsNone (all_of old) × (new ≡ old)) ⊎ (new ≡ [])
Waits r (Do (Ask peer)) old new = new ≡ old
Waits r (Do (Retry number)) old new = new ≡ old
Waits r (Do (Abandon number)) old new = new ≡ old
Waits r (Do Restart) old new = length new ≤ 1
Waits r (Take mail) old new = new ≡ old

-- what a delta is sent as: a message, or none where it knows no dot
abbrev pub IsSentAs : MapState → List Mail → Type 0
IsSentAs delta out = (KnowsNone delta × (out ≡ [])) ⊎ ((¬ KnowsNone delta) × (out ≡ Delta delta ∷ []))

-- A cut: the oldest of the deltas that wait are sent as one, and the others wait on.
pub record IsCut (old : Replica) (waiting : List MapState) (new : Replica) (left : List MapState) (out : List Mail) : Type 0 where
  pub first : List MapState
  pub parts : waiting ≡ first ++ left
  pub becomes : new ≡ record old { group = all_of left }
  pub sent : IsSentAs (all_of first) out
