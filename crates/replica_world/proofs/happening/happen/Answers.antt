use Rattle.std.proofs.lemmas.Result.{on_err_weaker}
use Rattle.std.proofs.Common.{refl}
use Rattle.replica_world.proofs.Recovered.{restart_made, restart_refused}
use Rattle.replica_world.proofs.Refusing.{left}
use Rattle.replica_world.proofs.Results.{if_ok_weaker, if_err_weaker, on_ok_all}
use Rattle.replica_world.proofs.Spelt.{nothing_added}
use Rattle.replica_world.proofs.happening.happen.Goals as goal

pub returns-in-Node-clause-ok : goal.returns-in-Node-clause-ok
returns-in-Node-clause-ok g c = rw c.in-Node.is (if_ok_weaker c.add.result (λ answer made. made c.args.posted.now) c.add.ensures.ok)

pub returns-in-Node-clause-adds : goal.returns-in-Node-clause-adds
returns-in-Node-clause-adds g c = on_ok_all c.add.result (nothing_added c.args.posted.now)

pub returns-in-Call-clause-ok : goal.returns-in-Call-clause-ok
returns-in-Call-clause-ok g c = rw c.in-Call.is (if_ok_weaker c.call_at.result (λ answer made. made c.args.hash) c.call_at.ensures.ok)

pub returns-in-Call-clause-refused : goal.returns-in-Call-clause-refused
returns-in-Call-clause-refused g c = rw c.in-Call.is (if_err_weaker c.call_at.result (λ refusal refused. refused c.args.hash) c.call_at.ensures.refused)

pub returns-in-Call-clause-unchanged : goal.returns-in-Call-clause-unchanged
returns-in-Call-clause-unchanged g c = on_err_weaker c.call_at.result (λ leaves. leaves c.args.hash) c.call_at.ensures.unchanged

pub returns-in-Deliver-clause-ok : goal.returns-in-Deliver-clause-ok
returns-in-Deliver-clause-ok g c = rw c.in-Deliver.is (if_ok_weaker c.deliver_at.result (λ answer made. made c.args.hash) c.deliver_at.ensures.ok)

pub returns-in-Deliver-clause-refused : goal.returns-in-Deliver-clause-refused
returns-in-Deliver-clause-refused g c =
    rw c.in-Deliver.is (if_err_weaker c.deliver_at.result (λ refusal refused. refused c.args.hash) c.deliver_at.ensures.refused)

pub returns-in-Deliver-clause-unchanged : goal.returns-in-Deliver-clause-unchanged
returns-in-Deliver-clause-unchanged g c = on_err_weaker c.deliver_at.result (λ leaves. leaves c.args.hash) c.deliver_at.ensures.unchanged

pub returns-in-Restart-clause-ok : goal.returns-in-Restart-clause-ok
returns-in-Restart-clause-ok g c =
    rw c.in-Restart.is
    (if_ok_weaker c.restart_at.result
    (λ answer told. rw told.0 (restart_made c.args.hash c.args.replicas.now c.restart_at.new.replicas c.args.posted.now c.in-Restart.name
    g.H.PathHash.hash_of told.1))
    c.restart_at.ensures.ok)

pub returns-in-Restart-clause-adds : goal.returns-in-Restart-clause-adds
returns-in-Restart-clause-adds g c = on_ok_all c.restart_at.result (nothing_added c.args.posted.now)

pub returns-in-Restart-clause-refused : goal.returns-in-Restart-clause-refused
returns-in-Restart-clause-refused g c =
    rw c.in-Restart.is
    (if_err_weaker c.restart_at.result
    (λ refusal told. restart_refused c.args.hash c.args.replicas.now c.restart_at.new.replicas c.args.posted.now c.in-Restart.name refusal told)
    c.restart_at.ensures.refused)

pub returns-in-Restart-clause-unchanged : goal.returns-in-Restart-clause-unchanged
returns-in-Restart-clause-unchanged g c =
    on_err_weaker c.restart_at.result
    (λ stays. left c.args.hash c.args.replicas.now c.restart_at.new.replicas c.args.posted.now c.args.posted.now c.in-Restart.name stays refl)
    c.restart_at.ensures.unchanged
