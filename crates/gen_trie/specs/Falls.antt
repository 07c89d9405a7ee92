-- Each node below a node has a lesser height.
use Rattle.std.specs.Prelude.{ℕ, zero, suc, ◌≤◌, max, List, [], ◌∷◌}
use Rattle.std.specs.List.{All}
use Rattle.std.proofs.Common.{arith}
use Rattle.std.specs.declared.alloc.Allocator.{Ghosts}
use Rattle.gen_trie.specs.declared.summary.Summary as Summary
use denote.Param.Weighed.{most}
use Rattle.gen_trie.specs.declared.node.Shape.{Shape}
use Rattle.gen_trie.specs.declared.node.Shape.TheVariants.{Branch, Keys}
use Rattle.gen_trie.specs.declared.node.Slot.{Slot}
use Rattle.gen_trie.specs.declared.node.Slot.TheVariants.{One, Many}
use Rattle.gen_trie.specs.declared.node.Node.TheDeep.{deep-Shape, deep-Slot}
use Rattle.gen_trie.specs.Shapes.{IsCanonical, height_and_entries, StandsBelow}

slot_falls : (V M A : Type 0) (m : Summary.Ghosts M V) (g : Ghosts A) (below : ℕ) (s : Slot V M A) → StandsBelow below s → deep-Slot V M A m g s ≤ suc below
slot_falls V M A m g below (One i e) h = omega arith
slot_falls V M A m g below (Many i n) h = let same = h.0 in omega arith

most_le : {X : Type 0} (w : X → ℕ) (n : ℕ) (xs : List X) → All (λ x. w x ≤ n) xs → most w xs ≤ n
most_le w n [] h = omega arith
most_le w n (x ∷ xs) h =
    let first : w x ≤ n = h zero x (omega arith) in
    let rest = most_le w n xs (λ k d l. h (suc k) d (omega (arith, l))) in
    omega arith

pub falls : (V M A : Type 0) (m : Summary.Ghosts M V) (g : Ghosts A) (s : Shape V M A) → IsCanonical s
    → max (deep-Shape V M A m g s) 0 ≤ (height_and_entries s).0
falls V M A m g (Branch below bitmap slots) h =
    let low = most_le (deep-Slot V M A m g) (suc below) slots.items (λ k d l. slot_falls V M A m g below _ (h.fits k d l)) in
    omega (arith, low)
falls V M A m g (Keys es) h = omega arith
