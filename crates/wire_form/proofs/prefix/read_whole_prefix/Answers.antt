use Rattle.std.proofs.Common.{List, ℕ}
use Rattle.wire_form.specs.Spelling.{IsWhole, HasNoSpelling}
use Rattle.wire_form.specs.Prefix.{prefix, IsPrefix}
use Rattle.wire_form.proofs.Reading.{refuses_weaker}
use Rattle.wire_form.proofs.Wholes.{none_whole}
use Rattle.wire_form.proofs.prefix.read_whole_prefix.Goals as goal

pub returns-in-Err : goal.returns-in-Err
returns-in-Err c =
    refuses_weaker (HasNoSpelling prefix IsPrefix c.args.bytes.now) ((p : List ℕ) → IsWhole prefix IsPrefix c.args.bytes.now p → ⊥) c.in-Err.refusal
    (none_whole prefix IsPrefix c.args.bytes.now) c.in-Err.ensures
