use Rattle.std.proofs.Common.{◌++◌, length, ap, ◌∙◌}
use Rattle.wire_form.specs.Parts.{text}
use Rattle.prefix_digest.proofs.Taken.{takes_both, takes_same, two_bytes}
use Rattle.prefix_digest.proofs.feeding.feed_text.Goals as goal

pub returns : goal.returns
unfolding text
returns c =
    takes_same c.args.hasher.now c.update-2.new.self (c.to_be_bytes.result ++ c.args.bytes.now) (text c.args.bytes.now)
    (ap (λ front. front ++ c.args.bytes.now) (c.to_be_bytes.ensures ∙ two_bytes (length c.args.bytes.now)))
    (takes_both c.args.hasher.now c.update.new.self c.update-2.new.self c.to_be_bytes.result c.args.bytes.now c.update.ensures c.update-2.ensures)
