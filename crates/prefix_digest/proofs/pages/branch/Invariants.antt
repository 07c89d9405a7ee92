use Rattle.std.proofs.Common.{◌≡◌, [], ◌∷◌, ◌++◌}
use Rattle.hash_path.specs.Summary.{present}
use Rattle.prefix_digest.specs.Page.{digest_at}
use Rattle.prefix_digest.proofs.pages.branch.Given as goal

abbrev pub invariant-loop-index : goal.invariant-loop-index
invariant-loop-index g l = l.children.items ≡ present 0 l.index (λ i. digest_at (g.H.PathHash.hash_of l.frozen.hash) l.frozen.map (l.prefix ++ i ∷ []))
