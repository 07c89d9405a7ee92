use Rattle.std.proofs.Common.{◌≡◌, take}
use Rattle.gen_trie.specs.Shapes.{listed}
use Rattle.gen_trie.proofs.copied.shared_list.Given as goal

abbrev pub invariant-loop-entry : goal.invariant-loop-entry
invariant-loop-entry g l = listed l.copies.items ≡ listed (take l.entry-index l.entries)
