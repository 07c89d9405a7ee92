-- What a node keeps. Of this project.
use Rattle.std.specs.Prelude.{◌≡◌}
use Rattle.std.specs.declared.option.Option.{Option}
use Rattle.std.specs.declared.option.Option.TheVariants.{None, Some}
use Rattle.hash_path.specs.Summary.{SummaryCalls, summary_of}
use Rattle.gen_trie.specs.declared.node.Shape.{Shape}
use Rattle.gen_trie.specs.Shapes.{height_and_entries, AreSealed}

-- nothing, or the summary of the node's entries, where each node below it keeps its own
abbrev pub IsKept : {V M A : Type 0} → SummaryCalls V M → Option M → Shape V M A → Type 0
IsKept c None shape = Unit {0}
IsKept c (Some m) shape = (summary_of c (height_and_entries shape).0 (height_and_entries shape).1 ≡ Some m) × AreSealed shape
