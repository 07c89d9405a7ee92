-- What the renewal of a child's summary leaves.
use Rattle.std.proofs.Common.{◌≡◌, ℕ, ◌+◌, ◌<◌, ◌≤◌, List, length, get_or, set, take, ◌∙◌, sym, ap, subst}
use Rattle.std.specs.List.{All}
use Rattle.std.proofs.lemmas.List.{length-set, take_all, take_more_set}
use Rattle.std.proofs.lemmas.List.Elements.{All-set, All-push}
use Rattle.std.proofs.Math.Seq.{map-set_same}
use Rattle.gen_trie.specs.declared.node.Slot.{Slot}
use Rattle.gen_trie.specs.Shapes.{children, child, IsSealed, StandsBelow}

module _ {V M A : Type 0} (below n : ℕ) (s new : Slot V M A) (old now : List (Slot V M A)) where
  -- of the children of a branch one is sealed
  pub one_sealed : (children below now ≡ children below old) × All (StandsBelow below) now × (length now ≡ length old) → s ≡ get_or now n s
      → child below new ≡ child below s → StandsBelow below new
      → (children below (set now n new) ≡ children below old) × All (StandsBelow below) (set now n new) × (length (set now n new) ≡ length old)
  one_sealed h is same fits = (
    map-set_same (child below) now n new s (same ∙ ap (child below) is) ∙ h.0,
    All-set (StandsBelow below) now n new fits h.1,
    length-set now n new ∙ h.2,
  )

module _ {V M A : Type 0} (n : ℕ) where
  -- one child more is sealed
  pub sealed_more : (new : Slot V M A) (now : List (Slot V M A)) → n < length now → All IsSealed (take n now) → IsSealed new
      → All IsSealed (take (n + 1) (set now n new))
  sealed_more new now less before here = subst (All IsSealed) (sym (take_more_set now n new less)) (All-push IsSealed (take n now) new before here)

  -- and at the end all are
  pub all_sealed : (now : List (Slot V M A)) → length now ≤ n → All IsSealed (take n now) → All IsSealed now
  all_sealed now end before = subst (All IsSealed) (take_all n now end) before
