-- What is sent of what waits, as the text of a handle.
use Rattle.std.proofs.Common.{◌≡◌, ℕ, List, [], ◌∷◌, sym, ap, subst, ◌∙◌}
use Rattle.std.specs.Prelude.{Option, Some, None, IfSome, IfNone}
use Rattle.replica_model.specs.Step.{KnowsNone}
use Rattle.replica_core.specs.Carrying.{letter_or_none}
use Rattle.replica_core.specs.Cutting.{IsWithin, SendsOldest}
use Rattle.replica_core.specs.Meaning.{meaning}
use Rattle.replica_core.specs.Stepping.{Stays}
use Rattle.replica_core.specs.declared.letter.Letter.{Letter}
use Rattle.ginelm_c.specs.declared.held.Held.{Held}
use Rattle.ginelm_c.specs.Sending.{SentAtMost}
use Rattle.ginelm_c.specs.Texts.{letters_in}

pub sent_at_most : {A : Type 0} (x y : Held) (most : ℕ) (letter : Option (Letter A)) → letters_in y.texts ≡ letter_or_none letter
    → SendsOldest x.replica y.replica (letter_or_none letter) → IfSome letter (λ l. IsWithin x.replica y.replica most l.bytes.items)
    → IfNone letter (KnowsNone (meaning x.replica).group × Stays x.replica y.replica) → SentAtMost x y most
sent_at_most x y most None texts sends within none = record {
  oldest = subst (SendsOldest x.replica y.replica) (sym texts) sends;
  within = λ to bytes is. absurd (cc (is, texts));
  none = λ is. none;
}
sent_at_most x y most (Some l) texts sends within none = record {
  oldest = subst (SendsOldest x.replica y.replica) (sym texts) sends;
  within = λ to bytes is.
      let same : (to, bytes) ∷ [] ≡ (l.to, l.bytes.items) ∷ [] = sym is ∙ texts in
      let alike : (to, bytes) ≡ (l.to, l.bytes.items) = cc same in
      subst (IsWithin x.replica y.replica most) (sym (ap (λ (p : Option ℕ × List ℕ). p.1) alike)) within;
  none = λ is. absurd (cc (is, texts));
}
