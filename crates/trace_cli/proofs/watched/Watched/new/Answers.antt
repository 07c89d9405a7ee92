use Rattle.std.specs.Prelude.{refl}
use Rattle.trace_cli.proofs.watched.Watched.new.Goals as goal

-- src/watched.rt
pub returns : goal.returns
returns g c = record { inner = refl; fresh = record { no_calls = refl; no_failure = refl; not_gone_on = refl; flushed = refl } }
