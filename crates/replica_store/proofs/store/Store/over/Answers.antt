use Rattle.std.proofs.Common.{◌∙◌}
use Rattle.durable_log.specs.Log.{log_state}
use Rattle.replica_core.specs.Meaning.{meaning}
use Rattle.replica_store.proofs.Surviving.{kept_now}
use Rattle.replica_store.proofs.store.Store.over.Goals as goal

pub invariant_of-result : goal.invariant_of-result
invariant_of-result g c fresh = (c.in_ok-replica.ensures.stays, λ clean. c.in_ok-replica.ensures.kept clean)

pub returns-clause-back : goal.returns-clause-back
returns-clause-back g c clean = c.in_ok-replica.ensures.back clean

pub returns-clause-kept : goal.returns-clause-kept
returns-clause-kept g c clean =
    kept_now (log_state g.S.Store c.come_back.new.log) (meaning c.in_ok-replica.replica)
    (c.is_failed.ensures.ready (c.is_failed.ensures.value ∙ c.in_ok-replica.ensures.stays) clean)
    (c.in_ok-replica.ensures.kept clean)
