use Rattle.std.proofs.Common.{[], inr, refl}
use Rattle.replica_world.proofs.Results.{if_ok_weaker}
use Rattle.replica_world.proofs.calling.make.Goals as goal

pub returns-in-Put-clause-ok : goal.returns-in-Put-clause-ok
returns-in-Put-clause-ok g c = rw c.in-Put.is (if_ok_weaker c.write.result (λ answer steps. ([], steps, inr (refl, refl))) c.write.ensures.ok)

pub returns-in-Remove-clause-ok : goal.returns-in-Remove-clause-ok
returns-in-Remove-clause-ok g c = rw c.in-Remove.is
    (if_ok_weaker c.write-in-Remove.result (λ answer steps. ([], steps, inr (refl, refl))) c.write-in-Remove.ensures.ok)

pub returns-in-RemoveField-clause-ok : goal.returns-in-RemoveField-clause-ok
returns-in-RemoveField-clause-ok g c = rw c.in-RemoveField.is
    (if_ok_weaker c.write-in-RemoveField.result (λ answer steps. ([], steps, inr (refl, refl))) c.write-in-RemoveField.ensures.ok)
