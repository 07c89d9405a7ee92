use Rattle.std.proofs.Common.{◌≡◌, ℕ, take}
use Rattle.std.specs.List.{All}
use Rattle.gen_trie.specs.Shapes.{children, IsNoNewer, StandsBelow}
use Rattle.gen_trie.proofs.copied.shared_all.Given as goal

abbrev pub invariant-loop-slot : goal.invariant-loop-slot
invariant-loop-slot g l = record {
  same : (below : ℕ) → children below l.copies.items ≡ children below (take l.slot-index l.slots);
  fits : (below : ℕ) → All (StandsBelow below) l.slots → All (StandsBelow below) l.copies.items;
  stamps : (generation : ℕ) → All (IsNoNewer generation) l.slots → All (IsNoNewer generation) l.copies.items;
}
