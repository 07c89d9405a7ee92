use Rattle.wire_form.specs.Spelling.{number}
use Rattle.prefix_digest.proofs.Taken.{takes_same}
use Rattle.prefix_digest.proofs.feeding.feed_number.Goals as goal

pub returns : goal.returns
unfolding number
returns c = takes_same c.args.hasher.now c.update.new.self c.to_be_bytes.result (number c.args.value) c.to_be_bytes.ensures c.update.ensures
