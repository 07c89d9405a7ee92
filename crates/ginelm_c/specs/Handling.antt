-- What a call makes of a handle. Of this project.
use Rattle.std.specs.Prelude.{◌≡◌, ℕ, List, [], Option, Some, None}
use Rattle.hash_path.specs.Fnv1a.{fnv1a}
use Rattle.hash_path.specs.declared.fnv1a.Fnv1a.{Fnv1a}
use Rattle.replica_model.specs.Step.{Act, Answer}
use Rattle.replica_core.specs.Carrying.{Sends}
use Rattle.replica_core.specs.Stepping.{Steps, Stays}
use Rattle.ginelm_c.specs.declared.held.Held.{Held}
use Rattle.ginelm_c.specs.Texts.{letters_in}

-- of a handle by what it held and what it holds: of a replica, or of a snapshot
module _ {T : Type 0} where
  -- a call with an empty handle is answered 14, and the handle stays empty
  abbrev pub StaysEmpty : Option T → Option T → ℕ → Type 0
  StaysEmpty old new answer = old ≡ None → (answer ≡ 14) × (new ≡ None)

  -- a handle that holds something holds something still
  abbrev pub StaysFull : Option T → Option T → Type 0
  StaysFull old new = (x : T) → old ≡ Some x → (y : T) × (new ≡ Some y)

  -- so stand what it held and what it holds
  abbrev pub Between : Option T → Option T → (T → T → Type 0) → Type 0
  Between old new P = (x y : T) → old ≡ Some x → new ≡ Some y → P x y

-- the replica is as it was, and so are the texts
pub record IsSame (x y : Held) : Type 0 where
  pub replica : Stays x.replica y.replica
  pub texts : y.texts ≡ x.texts

-- the hash of all keys' paths
abbrev pub hash_of : Fnv1a → List ℕ → ℕ
hash_of _ key = fnv1a key

-- the replica made this step, which sends nothing, and the texts are as they were
pub record Makes (x y : Held) (act : Act) (answer : Answer) : Type 0 where
  pub steps : Steps hash_of x.replica y.replica act answer []
  pub texts : y.texts ≡ x.texts

-- the replica made this step, and the letters of what it sends are the texts
abbrev pub Sent : Held → Held → Act → Answer → Type 0
Sent x y act answer = Sends hash_of x.replica y.replica act answer (letters_in y.texts)
