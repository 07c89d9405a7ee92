-- A store among replicas that crash: what it writes is made, and is saved with the flush of it, before that goes out; so is what it asks and
-- takes in. Of this project; systems
-- with crashes are those of the model of replicas.
use Rattle.std.specs.Prelude.{◌≡◌, ◌⊎◌, ℕ, true, List, [], ◌∷◌, ◌++◌, length}
use Rattle.op_model.specs.World.{is_among}
use Rattle.replica_model.specs.Crashing.{System, Occurrence, Saving, Passing, Crashes, Does, Goes}
use Rattle.replica_model.specs.Happened.{Happened}
use Rattle.replica_model.specs.Mail.{Mail}
use Rattle.replica_model.specs.Replica.{Replica, restarts}
use Rattle.replica_model.specs.Step.{Call, Put, Remove, RemoveField, Clear, Flush, Do, Answer, Nothing, IsStep}
use Rattle.replica_model.specs.World.{Event, At}
use Rattle.replica_model.specs.Laws.{replica_of}
use Rattle.replica_store.specs.Rebuilt.{IsRebuilt}

-- the calls that write
abbrev pub IsWrite : Call → Type 0
IsWrite (Put place value) = Unit {0}
IsWrite (Remove key) = Unit {0}
IsWrite (RemoveField place) = Unit {0}
IsWrite Clear = Unit {0}
IsWrite _ = ⊥

-- a write that was answered so, and its flush, which sends so many messages and is saved
abbrev pub passing : ℕ → Call → Answer → Occurrence
passing name call answer = Passing (record { event = At name call; answer = answer; sent = 0 })

abbrev pub flushing : ℕ → ℕ → Occurrence
flushing name sent = Saving (record { event = At name Flush; answer = Nothing; sent = sent })

abbrev pub written : ℕ → Call → Answer → ℕ → List Occurrence
written name call answer sent = passing name call answer ∷ flushing name sent ∷ []

-- A write that a store acknowledged has occurred, and is saved.
abbrev pub WritesAreSaved : Type 0
WritesAreSaved = (hash_of : List ℕ → ℕ) (s : System) (name : ℕ) (call : Call) (mid new : Replica) (answer : Answer) (out : List Mail) → IsWrite call
    → is_among s.nodes name ≡ true → IsStep hash_of (s.replica name) (Do call) mid answer [] → IsStep hash_of mid (Do Flush) new Nothing out
    → (t : System) × Goes hash_of s (written name call answer (length out)) t × (t.replica name ≡ new) × (t.saved name ≡ new) × (t.messages ≡ s.messages ++ out)

-- What comes back after a crash in the middle of a write is the replica without the write or with it, as after these occurrences.
abbrev pub CrashesComeBack : Type 0
CrashesComeBack = (hash_of : List ℕ → ℕ) (s : System) (name : ℕ) (call : Call) (mid new : Replica) (answer : Answer) (out : List Mail)
    (strings : List (List ℕ)) (back : Replica) → IsWrite call
    → is_among s.nodes name ≡ true → restarts (s.saved name) ≡ restarts (s.replica name)
    → IsStep hash_of (s.replica name) (Do call) mid answer [] → IsStep hash_of mid (Do Flush) new Nothing out
    → IsRebuilt strings (restarts (s.replica name)) ⊎ IsRebuilt strings (restarts new) → IsRebuilt strings back
    → (t : System) × (Goes hash_of s (Crashes name ∷ []) t ⊎ Goes hash_of s (written name call answer (length out) ++ Crashes name ∷ []) t) × (t.replica name ≡ back)

-- several writes and one flush, which is saved
abbrev pub all_written : ℕ → List Call → List Answer → ℕ → List Occurrence
all_written name (call ∷ calls) (answer ∷ answers) sent = passing name call answer ∷ all_written name calls answers sent
all_written name calls answers sent = flushing name sent ∷ []

-- the writes, one after the other, with what each is answered
abbrev pub AreMade : (List ℕ → ℕ) → Replica → List Call → List Answer → Replica → Type 0
AreMade hash_of old [] [] new = new ≡ old
AreMade hash_of old (call ∷ calls) (answer ∷ answers) new = IsWrite call
    × ((mid : Replica) × IsStep hash_of old (Do call) mid answer [] × AreMade hash_of mid calls answers new)
AreMade hash_of old _ _ new = ⊥

-- Several writes that a store acknowledged at once have occurred, and are saved.
abbrev pub AllAreSaved : Type 0
AllAreSaved = (hash_of : List ℕ → ℕ) (s : System) (name : ℕ) (calls : List Call) (answers : List Answer) (mid new : Replica) (out : List Mail)
    → is_among s.nodes name ≡ true → AreMade hash_of (s.replica name) calls answers mid → IsStep hash_of mid (Do Flush) new Nothing out
    → (t : System) × Goes hash_of s (all_written name calls answers (length out)) t × (t.replica name ≡ new) × (t.saved name ≡ new) × (t.messages ≡ s.messages ++ out)

-- What comes back after a crash in the middle of several writes is the replica without any of them or with all.
abbrev pub AllComeBack : Type 0
AllComeBack = (hash_of : List ℕ → ℕ) (s : System) (name : ℕ) (calls : List Call) (answers : List Answer) (mid new : Replica) (out : List Mail)
    (strings : List (List ℕ)) (back : Replica)
    → is_among s.nodes name ≡ true → restarts (s.saved name) ≡ restarts (s.replica name)
    → AreMade hash_of (s.replica name) calls answers mid → IsStep hash_of mid (Do Flush) new Nothing out
    → IsRebuilt strings (restarts (s.replica name)) ⊎ IsRebuilt strings (restarts new) → IsRebuilt strings back
    → (t : System) × (Goes hash_of s (Crashes name ∷ []) t ⊎ Goes hash_of s (all_written name calls answers (length out) ++ Crashes name ∷ []) t) × (t.replica name ≡ back)

-- an event that was answered so and sent these
abbrev pub happened : Event → Answer → List Mail → Happened
happened event answer out = record { event = event; answer = answer; sent = length out }

-- What a store acknowledged of an event of its replica, as an ask or a delivery, has occurred, and is saved before what it sends goes out.
abbrev pub EventsAreSaved : Type 0
EventsAreSaved = (hash_of : List ℕ → ℕ) (s : System) (event : Event) (new : Replica) (answer : Answer) (out : List Mail) → Does hash_of s event new answer out
    → (t : System) × Goes hash_of s (Saving (happened event answer out) ∷ []) t × (t.replica (replica_of event) ≡ new) × (t.saved (replica_of event) ≡ new)
    × (t.messages ≡ s.messages ++ out)

-- What comes back after a crash in the middle of one is the replica without it or with it, as after these occurrences.
abbrev pub EventsComeBack : Type 0
EventsComeBack = (hash_of : List ℕ → ℕ) (s : System) (event : Event) (new : Replica) (answer : Answer) (out : List Mail) (strings : List (List ℕ))
    (back : Replica)
    → is_among s.nodes (replica_of event) ≡ true → restarts (s.saved (replica_of event)) ≡ restarts (s.replica (replica_of event))
    → Does hash_of s event new answer out
    → IsRebuilt strings (restarts (s.replica (replica_of event))) ⊎ IsRebuilt strings (restarts new) → IsRebuilt strings back
    → (t : System) × (Goes hash_of s (Crashes (replica_of event) ∷ []) t ⊎ Goes hash_of s (Saving (happened event answer out) ∷ Crashes (replica_of event) ∷ []) t)
    × (t.replica (replica_of event) ≡ back)
