use Rattle.replica_core.proofs.TiedKept.{kept_tied, keeping_tied, hello_tied, ask_tied}
use Rattle.replica_core.proofs.laws.snapshots_answer_as_told.Goals as goal

pub returns-clause-kept : goal.returns-clause-kept
returns-clause-kept g c = kept_tied

pub returns-clause-keeping : goal.returns-clause-keeping
returns-clause-keeping g c = keeping_tied

pub returns-clause-hellos : goal.returns-clause-hellos
returns-clause-hellos g c = hello_tied g.H.PathHash.hash_of

pub returns-clause-asks : goal.returns-clause-asks
returns-clause-asks g c = ask_tied g.H.PathHash.hash_of
