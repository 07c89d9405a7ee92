use Rattle.std.proofs.Common.{◌≡◌, ◌∙◌}
use Rattle.sqlite.specs.State.{HasCleanDisk}
use Rattle.durable_log.specs.Log.{log_state, IsReady}
use Rattle.replica_core.specs.Meaning.{meaning}
use Rattle.replica_store.specs.Kept.{TellAll}
use Rattle.replica_store.proofs.Anew.{between_always, replaced_kept}
use Rattle.replica_store.proofs.Surviving.{was_clean}
use Rattle.replica_store.proofs.compacting.keep_anew.Goals as goal

pub returns-in-Ok-clause-kept : goal.returns-in-Ok-clause-kept
returns-in-Ok-clause-kept g c clean keeps =
    let r = meaning c.args.replica.now in
    let before = log_state g.S.Store c.args.log.now in
    let after = log_state g.S.Store c.replace.new.self in
    let told : TellAll r c.as_slice.result.now c.as_slice-2.result.now c.as_slice-3.result.now =
    rw (← c.as_slice.ensures.value, ← c.as_slice-2.ensures.value, ← c.as_slice-3.ensures.value) at c.in_ok-name.ensures.told in
    let both = c.in-Ok.ensures.replaced clean in
    replaced_kept before after r _ _ _ keeps told both.0 both.1

pub returns-in-Ok-clause-any_moment : goal.returns-in-Ok-clause-any_moment
returns-in-Ok-clause-any_moment g c clean keeps =
    let r = meaning c.args.replica.now in
    let before = log_state g.S.Store c.args.log.now in
    let after = log_state g.S.Store c.replace.new.self in
    let told : TellAll r c.as_slice.result.now c.as_slice-2.result.now c.as_slice-3.result.now =
    rw (← c.as_slice.ensures.value, ← c.as_slice-2.ensures.value, ← c.as_slice-3.ensures.value) at c.in_ok-name.ensures.told in
    let survives = c.replace.ensures.any_moment in
    let ready : IsReady before = c.is_failed.ensures.ready (c.is_failed.ensures.value ∙ c.requires) (was_clean before after _ survives clean) in
    between_always before after r _ _ _ keeps told ready survives clean

pub returns-clause-any_moment : goal.returns-clause-any_moment
returns-clause-any_moment g c clean keeps =
    let r = meaning c.args.replica.now in
    let before = log_state g.S.Store c.args.log.now in
    let after = log_state g.S.Store c.replace.new.self in
    let told : TellAll r c.as_slice.result.now c.as_slice-2.result.now c.as_slice-3.result.now =
    rw (← c.as_slice.ensures.value, ← c.as_slice-2.ensures.value, ← c.as_slice-3.ensures.value) at c.in_ok-name.ensures.told in
    let survives = c.replace.ensures.any_moment in
    let ready : IsReady before = c.is_failed.ensures.ready (c.is_failed.ensures.value ∙ c.requires) (was_clean before after _ survives clean) in
    between_always before after r _ _ _ keeps told ready survives clean
