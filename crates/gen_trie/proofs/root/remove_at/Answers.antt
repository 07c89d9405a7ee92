use Rattle.std.proofs.Common.{Option, Some, sym, ap, ◌∙◌}
use Rattle.std.specs.Prelude.{is_some}
use Rattle.hash_path.specs.Word.{word}
use Rattle.hash_path.proofs.Cutting.{cut_missing}
use Rattle.gen_trie.specs.declared.entry.Entry.{Entry}
use Rattle.gen_trie.specs.Root.{root_entries}
use Rattle.gen_trie.proofs.Roots.{IsRoot-cut}
use Rattle.gen_trie.proofs.root.remove_at.Goals as goal

pub returns-in-None-clause-ok : goal.returns-in-None-clause-ok
returns-in-None-clause-ok g c = sym (cut_missing (word 7 c.args.hash c.args.key.now) (root_entries c.args.root.now) (sym c.in-None.ensures.value))

pub returns-clause-is_root : goal.returns-clause-is_root
returns-clause-is_root g c =
    IsRoot-cut c.args.root.now c.take_root.new.root c.args.count.now (word 7 c.args.hash c.args.key.now) c.requires.is_root
    (ap is_some (sym c.in-Some.ensures.value)) c.in_ok-take_root.ensures.ok c.in_ok-take_root.ensures.stands

pub returns-clause-value : goal.returns-clause-value
returns-clause-value g c =
    let value_of : Entry g.row.V.Denot g.row.A.Denot → Option g.row.V.Denot = λ entry. Some entry.value in
    ap value_of c.in_ok-entry-in-Some.ensures ∙ c.in-Some.ensures.value
