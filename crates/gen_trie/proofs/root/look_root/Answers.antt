use Rattle.std.proofs.Common.{sym, ◌∙◌, ap}
use Rattle.std.specs.FinMap.Entries.{find}
use Rattle.dots.specs.Bytes.{bytes_cmp}
use Rattle.hash_path.specs.Word.{word}
use Rattle.gen_trie.specs.Root.{root_entries}
use Rattle.gen_trie.specs.Shapes.{child}
use Rattle.gen_trie.proofs.Lookups.{found_one}
use Rattle.gen_trie.proofs.root.look_root.Goals as goal

pub returns-in-One-clause-value : goal.returns-in-One-clause-value
returns-in-One-clause-value g c =
    c.entry_for.ensures.value ∙ sym (found_one 7 c.args.hash c.args.key.now c.in-One.entry.value)
    ∙ ap (λ s. find bytes_cmp (word 7 c.args.hash c.args.key.now) (child 7 s).1) (sym c.in-One.is)
    ∙ ap (λ r. find bytes_cmp (word 7 c.args.hash c.args.key.now) (root_entries r)) (sym c.in-Some.is)
