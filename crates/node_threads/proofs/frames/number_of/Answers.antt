use Rattle.std.proofs.Common.{rules}
use Rattle.std.proofs.lemmas.Nat.{be_bytes_4}
use Rattle.node_threads.proofs.frames.number_of.Goals as goal

pub returns : goal.returns
returns c = be_bytes_4 c.args.head c.from_be_bytes.result (search rules) (search rules) c.from_be_bytes.ensures
