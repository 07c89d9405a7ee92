use Rattle.trace_world.proofs.SeenWrites.{writes_seen}
use Rattle.trace_world.proofs.laws.writes_are_told_by_what_was_seen.Goals as goal

pub returns : goal.returns
returns c = writes_seen
