use Rattle.gen_trie.proofs.Takes.{other_first, other_second}
use Rattle.gen_trie.proofs.take.other_of.Goals as goal

pub returns-then-is_at : goal.returns-then-is_at
returns-then-is_at g c = λ h s f. other_first h c.args.hash c.args.key.now c.args.a.now.value c.args.b.now.value c.deref.result.now c.deref.ensures
    c.if-is_at.ensures s

pub returns-else-is_at : goal.returns-else-is_at
returns-else-is_at g c = λ h s f. other_second h c.args.hash c.args.key.now c.args.a.now.value c.args.b.now.value c.deref.result.now c.deref.ensures
    c.if-is_at.ensures f
