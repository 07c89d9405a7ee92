-- Messages by their bytes. Of this project.
use Rattle.std.specs.Prelude.{◌≡◌, ℕ, List, ◌++◌, map}
use Rattle.std.specs.declared.vec.Vec.{Vec}
use Rattle.wire_form.specs.Message.{MessageValue}
use Rattle.replica_model.specs.Mail.{mail_of}
use Rattle.replica_model.specs.Spelled.{AreSpelled}

-- each in its bytes
abbrev pub bytes_of : {A : Type 0} → List (Vec ℕ A) → List (List ℕ)
bytes_of messages = map (λ m. m.items) messages

-- the second list is the first with more behind it
abbrev pub Adds : List (List ℕ) → List (List ℕ) → Type 0
Adds old new = (more : List (List ℕ)) × (new ≡ old ++ more)

-- the second list is the first with the bytes of these messages behind it
abbrev pub Gains : List (List ℕ) → List (List ℕ) → List MessageValue → Type 0
Gains old new messages = (more : List (List ℕ)) × (new ≡ old ++ more) × AreSpelled more (map mail_of messages)
