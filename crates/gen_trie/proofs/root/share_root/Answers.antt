use Rattle.std.proofs.Common.{Some, subst, ap}
use Rattle.gen_trie.specs.Root.{IsRoot}
use Rattle.gen_trie.proofs.Roots.{same_root}
use Rattle.gen_trie.proofs.root.share_root.Goals as goal

pub returns-in_ok-shared-in-Some-clause-is_root : goal.returns-in_ok-shared-in-Some-clause-is_root
returns-in_ok-shared-in-Some-clause-is_root g c = λ count h.
    same_root (Some c.in-Some.slot) (Some c.in_ok-shared-in-Some.field-0) count
    (ap (λ x. x.1) (c.in_ok-shared-in-Some.ensures.same 7)) (c.in_ok-shared-in-Some.ensures.fits 7) (subst (λ r. IsRoot r count) c.in-Some.is h)
