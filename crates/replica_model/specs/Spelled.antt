-- Messages of a world by their bytes. Of this project.
use Rattle.std.specs.Prelude.{◌≡◌, ℕ, List, [], ◌∷◌}
use Rattle.wire_form.specs.Message.{MessageValue, Spells}
use Rattle.replica_model.specs.Mail.{Mail, mail_of}

-- the bytes spell what the mail means
abbrev pub IsSpelled : List ℕ → Mail → Type 0
IsSpelled bytes mail = (message : MessageValue) × Spells bytes message × (mail_of message ≡ mail)

-- each spells the mail at its place
abbrev pub AreSpelled : List (List ℕ) → List Mail → Type 0
AreSpelled [] [] = Unit {0}
AreSpelled [] (m ∷ ms) = ⊥
AreSpelled (b ∷ bs) [] = ⊥
AreSpelled (b ∷ bs) (m ∷ ms) = IsSpelled b m × AreSpelled bs ms
