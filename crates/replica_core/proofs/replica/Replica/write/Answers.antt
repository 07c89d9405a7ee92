use Rattle.std.proofs.Common.{sym, subst}
use Rattle.replica_core.specs.Stepping.{IsRefused}
use Rattle.replica_core.specs.Writing.{call_of}
use Rattle.replica_core.specs.declared.write.Write.{Write}
use Rattle.replica_core.proofs.replica.Replica.write.Goals as goal

pub returns-in-Err-clause-refused : goal.returns-in-Err-clause-refused
returns-in-Err-clause-refused g c = subst (λ (w : Write _). IsRefused c.args.self.now (call_of w) c.in-Err.refusal) (sym c.in-Put.is) c.in-Err.ensures.refused
