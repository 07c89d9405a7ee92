use Rattle.trace_world.proofs.SeenReads.{looks_seen, reads_seen}
use Rattle.trace_world.proofs.laws.reads_tell_what_was_seen.Goals as goal

pub returns-clause-reads : goal.returns-clause-reads
returns-clause-reads c = reads_seen

pub returns-clause-looks : goal.returns-clause-looks
returns-clause-looks c = looks_seen
