use Rattle.std.proofs.Common.{◌≡◌}
use Rattle.sync_protocol.proofs.Kept.{all_after}
use Rattle.sync_protocol.proofs.laws.hashes_stay.Goals as goal

pub returns : goal.returns
returns g c = λ hash kept s new all here. all_after (λ k. k.hash ≡ hash) kept s new all here
