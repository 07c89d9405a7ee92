use Rattle.std.proofs.Common.{[], ◌++◌, take}
use Rattle.std.specs.List.{flat_map}
use Rattle.wire_form.specs.Page.{entry}
use Rattle.prefix_digest.specs.Taking.{TakesBytes}
use Rattle.prefix_digest.proofs.page_feeding.feed_entries.Given as goal

abbrev pub invariant-loop-key : goal.invariant-loop-key
invariant-loop-key g l = TakesBytes l.fn.hasher l.hasher ([] ++ flat_map entry (take l.key-index l.entries))
