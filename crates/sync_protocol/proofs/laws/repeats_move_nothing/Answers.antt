use Rattle.std.proofs.Common.{ap}
use Rattle.sync_protocol.specs.Answering.{kept_after, kept_with, told_with}
use Rattle.sync_protocol.proofs.Kept.{told_found}
use Rattle.sync_protocol.proofs.laws.repeats_move_nothing.Goals as goal

pub returns : goal.returns
returns g c = λ kept s new later. (ap (kept_with s later (kept_after kept s new)) (told_found kept s new), ap (told_with later) (told_found kept s new))
