use Rattle.std.proofs.Common.{sym, subst}
use Rattle.gen_trie.specs.Root.{root_entries}
use Rattle.gen_trie.specs.Shapes.{child, HasMore}
use Rattle.gen_trie.proofs.Puts.{if_ok_so}
use Rattle.gen_trie.proofs.root.put_root.Goals as goal

pub returns-in-Some-clause-fresh : goal.returns-in-Some-clause-fresh
returns-in-Some-clause-fresh g c =
    if_ok_so c.put_slot.result (λ fresh more. subst (λ r. HasMore fresh (root_entries r) (child 7 c.put_slot.new.slot).1) (sym c.in-Some.is) more)
    c.put_slot.ensures.fresh
