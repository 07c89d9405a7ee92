use Rattle.trace_cli.proofs.writing.write_reply.Goals as goal

-- it does not go on
pub returns-in_ok-write_fault-in-Faulted-clause-goes_on : goal.returns-in_ok-write_fault-in-Faulted-clause-goes_on
returns-in_ok-write_fault-in-Faulted-clause-goes_on g c = tt
