-- Several writes at once. Of this project.
use Rattle.std.specs.Prelude.{◌≡◌, ℕ, List, [], ◌∷◌}
use Rattle.replica_model.specs.Mail.{Mail}
use Rattle.replica_model.specs.Step.{Call, Flush, Do, Answer, Nothing}
use Rattle.replica_core.specs.Meaning.{ReplicaValue}
use Rattle.replica_core.specs.Stepping.{Steps}
use Rattle.replica_core.specs.declared.write.Write.{Write}
use Rattle.replica_core.specs.declared.write.Write.TheVariants as write
use Rattle.replica_core.specs.Writing.{call_of}
use Rattle.replica_store.specs.Systems.{IsWrite}

pub is_write_of : {A : Type 0} → (w : Write A) → IsWrite (call_of w)
is_write_of (write.Put key field value) = tt
is_write_of (write.Remove key) = tt
is_write_of (write.RemoveField key field) = tt
is_write_of write.Clear = tt

module _ {Hash : Type 0} (hash_of : Hash → List ℕ → ℕ) where
  -- the calls, one after the other, with what each is answered
  abbrev pub MakesAll : ReplicaValue Hash → ReplicaValue Hash → List Call → List Answer → Type 0
  MakesAll old new [] [] = new ≡ old
  MakesAll old new (call ∷ calls) (answer ∷ answers) = (mid : ReplicaValue Hash) × Steps hash_of old mid (Do call) answer [] × MakesAll mid new calls answers
  MakesAll old new _ _ = ⊥

  -- the calls, and then one flush of what they made
  pub record WritesAll (old new : ReplicaValue Hash) (calls : List Call) (answers : List Answer) (out : List Mail) : Type 0 where
    pub mid : ReplicaValue Hash
    pub made : MakesAll old mid calls answers
    pub sent : Steps hash_of mid new (Do Flush) Nothing out
