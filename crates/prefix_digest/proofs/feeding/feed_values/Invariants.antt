use Rattle.std.proofs.Common.{◌++◌, length, take}
use Rattle.std.specs.List.{flat_map}
use Rattle.sha2.specs.Sha256.{sha256}
use Rattle.wire_form.specs.Spelling.{number, pair}
use Rattle.wire_form.specs.Parts.{dot_bytes}
use Rattle.wire_form.specs.Page.{digest}
use Rattle.prefix_digest.specs.Taking.{TakesBytes}
use Rattle.prefix_digest.proofs.feeding.feed_values.Given as goal

abbrev pub invariant-loop-dot : goal.invariant-loop-dot
invariant-loop-dot g l = TakesBytes l.fn.hasher l.hasher (number (length l.entries)
    ++ flat_map (λ v. pair dot_bytes digest (v.0, sha256 v.1)) (take l.dot-index l.entries))
