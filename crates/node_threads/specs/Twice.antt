-- What comes but once in a history of one replica. Of this project.
use Rattle.std.specs.Prelude.{◌≡◌, ◌<◌, false, ℕ, List, Some}
use Rattle.std.specs.List.{slice_get}
use Rattle.dots.specs.declared.dot.Dot.{Dot}
use Rattle.replica_model.specs.History.{Entry, Runs}
use Rattle.replica_model.specs.Replica.{Replica}
use Rattle.replica_model.specs.Step.{Answer, Made, Numbered}

-- an answer of this kind comes at one place of the list at most
abbrev pub ComesOnce : {X : Type 0} → (X → Answer) → List Answer → Type 0
ComesOnce {X} kind answers = (i j : ℕ) (x : X) → slice_get answers i ≡ Some (kind x) → slice_get answers j ≡ Some (kind x) → i ≡ j

-- of the answers to what happened to a replica, from this one on
abbrev pub OfEachHistory : (Replica → List Answer → Type 0) → Type 0
OfEachHistory P = (hash_of : List ℕ → ℕ) (first : Replica) (history : List Entry) (answers : List Answer) (r : Replica)
    → Runs hash_of first history answers r → P first answers

-- no dot is made twice, and none that was known at first
abbrev pub DotsDiffer : Type 0
DotsDiffer = OfEachHistory (λ first answers. ComesOnce Made answers
    × ((i : ℕ) (dot : Dot) → slice_get answers i ≡ Some (Made dot) → first.live.has dot ≡ false))

-- no two own synchronisations have one number, and none has one that was used at first
abbrev pub NumbersDiffer : Type 0
NumbersDiffer = OfEachHistory (λ first answers. ComesOnce Numbered answers × ((i n : ℕ) → slice_get answers i ≡ Some (Numbered n) → first.opened < n))
