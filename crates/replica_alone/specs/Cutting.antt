-- A replica that sends what waits in parts: it is as one that flushed earlier, whose messages went out later. Of this project.
use Rattle.std.specs.Prelude.{◌≡◌, ◌↔◌, ℕ, Bool, true, false, not, List, [], ◌∷◌, ◌++◌, map, filter, Contains}
use Rattle.op_model.specs.Meaning.{MapState}
use Rattle.replica_model.specs.Alone.{Deed, Calls, Comes, RunsAlone, act_of}
use Rattle.replica_model.specs.Mail.{Mail}
use Rattle.replica_model.specs.Replica.{Replica, fresh}
use Rattle.replica_model.specs.Step.{Call, Put, Remove, RemoveField, Clear, Flush, Ask, Retry, Abandon, Restart, Answer, IsStep}
use Rattle.replica_model.specs.World.{World, Message, nothing}
use Rattle.replica_alone.specs.Waiting.{all_of, Waits, IsCut}

-- what happens to it: a deed, or a cut
pub data Cutting : Type 0 where
  Does : Deed → Cutting
  Cuts : Cutting

-- the deeds among these
abbrev pub deeds_of : List Cutting → List Deed
deeds_of [] = []
deeds_of (Does d ∷ cs) = d ∷ deeds_of cs
deeds_of (Cuts ∷ cs) = deeds_of cs

-- all but the flushes
abbrev pub is_flush_call : Call → Bool
is_flush_call (Put place value) = false
is_flush_call (Remove key) = false
is_flush_call (RemoveField place) = false
is_flush_call Clear = false
is_flush_call Flush = true
is_flush_call (Ask peer) = false
is_flush_call (Retry number) = false
is_flush_call (Abandon number) = false
is_flush_call Restart = false

abbrev pub is_flush : Deed → Bool
is_flush (Calls c) = is_flush_call c
is_flush (Comes mail of) = false

abbrev pub but_flushes : List Deed → List Deed
but_flushes deeds = filter (λ d. not (is_flush d)) deeds

module _ (hash_of : List ℕ → ℕ) where
  -- one of these happens to a replica for which these deltas wait
  abbrev pub CutStep : Replica → List MapState → Cutting → Replica → List MapState → List Mail → Type 0
  CutStep r waiting (Does d) s left out =
      (answer : Answer) × IsStep hash_of r (act_of d) s answer out × Waits r (act_of d) waiting left × (s.group ≡ all_of left)
  CutStep r waiting Cuts s left out = IsCut r waiting s left out

  -- after these, from one on, and all that it sent
  abbrev pub RunsCutting : Replica → List MapState → List Cutting → Replica → List MapState → List Mail → Type 0
  RunsCutting r waiting [] s left sent = (s ≡ r) × (left ≡ waiting) × (sent ≡ [])
  RunsCutting r waiting (c ∷ cs) s left sent =
      (next : Replica) × (then_waiting : List MapState) × (now later : List Mail) × CutStep r waiting c next then_waiting now
      × RunsCutting next then_waiting cs s left later × (sent ≡ now ++ later)

-- deeds that lead to the same replica, alike but for where it flushes, by which it sent the same messages
pub record IsAsFlushed (hash_of : List ℕ → ℕ) (name : ℕ) (cs : List Cutting) (s : Replica) (sent : List Mail) : Type 0 where
  pub deeds : List Deed
  pub world : World
  pub runs : RunsAlone hash_of name nothing deeds world
  pub replica : world.replica name ≡ s
  pub alike : but_flushes deeds ≡ but_flushes (deeds_of cs)
  pub messages : (mail : Mail) → Contains (map (λ (m : Message). m.mail) world.messages) mail ↔ Contains sent mail

-- so what holds of a replica by itself over all lists of deeds, of what it holds and of each message that it sent, holds of one that cuts
abbrev pub CutsAreFlushes : Type 0
CutsAreFlushes = (hash_of : List ℕ → ℕ) (name : ℕ) (cs : List Cutting) (s : Replica) (left : List MapState) (sent : List Mail)
    → RunsCutting hash_of (fresh name) [] cs s left sent → IsAsFlushed hash_of name cs s sent
