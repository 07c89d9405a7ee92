use Rattle.std.proofs.Common.{◌++◌, length, take}
use Rattle.std.specs.List.{flat_map}
use Rattle.wire_form.specs.Spelling.{number, pair}
use Rattle.wire_form.specs.Parts.{text}
use Rattle.wire_form.specs.Page.{names}
use Rattle.prefix_digest.specs.Page.{named_values}
use Rattle.prefix_digest.specs.Taking.{TakesBytes}
use Rattle.prefix_digest.proofs.feeding.feed_fields.Given as goal

abbrev pub invariant-loop-field : goal.invariant-loop-field
invariant-loop-field g l = TakesBytes l.fn.hasher l.hasher (number (length l.entries)
    ++ flat_map (λ f. pair text names (f.0, named_values f.1)) (take l.field-index l.entries))
