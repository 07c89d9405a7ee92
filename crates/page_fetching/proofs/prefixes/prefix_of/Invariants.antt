use Rattle.std.proofs.Common.{◌≡◌, ◌++◌, length}
use Rattle.hash_path.specs.Path.{AreIndices}
use Rattle.page_fetching.proofs.prefixes.prefix_of.Given as goal

abbrev pub invariant-loop-first : goal.invariant-loop-first
invariant-loop-first l = (l.prefix ++ l.left ≡ l.bytes) × AreIndices (length l.prefix) l.left

abbrev pub decreases-loop-first : goal.decreases-loop-first
decreases-loop-first l = length l.left
