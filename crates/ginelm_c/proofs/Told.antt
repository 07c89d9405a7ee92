-- What is told as a text is told as a letter: over plain variables.
use Rattle.std.proofs.Common.{◌≡◌, ◌⊎◌, inl, inr, ℕ, List, [], ◌∷◌, Option, Some, None, IfSome, refl, ap}
use Rattle.hash_path.specs.declared.fnv1a.Fnv1a.{Fnv1a}
use Rattle.replica_core.specs.Carrying.{letter_or_none}
use Rattle.replica_core.specs.Meaning.{ReplicaValue}
use Rattle.replica_core.specs.declared.letter.Letter.{Letter}
use Rattle.wire_form.specs.Message.{MessageValue}
use Rattle.ginelm_c.specs.Sending.{IsBrought}

-- there is no letter, or one for everyone, which is of what the message brings
pub brought_alone : {A : Type 0} (letter : Option (Letter A)) (r : ReplicaValue Fnv1a) (message : MessageValue)
    → IfSome letter (λ l. (l.to ≡ None) × IsBrought l.bytes.items r message)
    → (letter_or_none letter ≡ []) ⊎ ((text : List ℕ) × (letter_or_none letter ≡ (None, text) ∷ []) × IsBrought text r message)
brought_alone None r message is = inl refl
brought_alone (Some l) r message is = inr (l.bytes.items, ap (λ (to : Option ℕ). (to, l.bytes.items) ∷ []) is.0, is.1)
