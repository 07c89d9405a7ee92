use Rattle.std.proofs.Common.{◌++◌, length, take}
use Rattle.std.specs.List.{flat_map}
use Rattle.wire_form.specs.Spelling.{number, pair}
use Rattle.wire_form.specs.Parts.{dot_bytes}
use Rattle.wire_form.specs.Page.{digest}
use Rattle.prefix_digest.specs.Taking.{TakesBytes}
use Rattle.prefix_digest.proofs.page_feeding.feed_names.Given as goal

abbrev pub invariant-loop-dot : goal.invariant-loop-dot
invariant-loop-dot g l = TakesBytes l.fn.hasher l.hasher (number (length l.entries) ++ flat_map (pair dot_bytes digest) (take l.dot-index l.entries))
