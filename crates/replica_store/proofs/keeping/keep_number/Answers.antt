use Rattle.std.proofs.Common.{◌≡◌, ◌∙◌}
use Rattle.durable_log.specs.Log.{log_state, IsReady}
use Rattle.replica_store.proofs.Gaining.{gains_number}
use Rattle.replica_store.proofs.Surviving.{was_clean, kept_now, gained, on_ok}
use Rattle.replica_store.proofs.keeping.keep_number.Goals as goal

pub returns-clause-kept : goal.returns-clause-kept
returns-clause-kept g c old new keeps above is clean =
    let before = log_state g.S.Store c.args.log.now in
    let after = log_state g.S.Store c.keep_opened.new.log in
    on_ok c.keep_opened.result (λ both. kept_now after new both.0 (gains_number before.now.trees after.now.trees old new keeps c.args.number both.1 above is))
    (c.keep_opened.ensures.kept clean)

pub returns-clause-any_moment : goal.returns-clause-any_moment
returns-clause-any_moment g c old new keeps above is clean =
    let before = log_state g.S.Store c.args.log.now in
    let after = log_state g.S.Store c.keep_opened.new.log in
    let survives = c.keep_opened.ensures.any_moment in
    let ready : IsReady before = c.is_failed.ensures.ready (c.is_failed.ensures.value ∙ c.requires) (was_clean before after _ survives clean) in
    gained before after old new _ ready keeps survives (λ db gains. gains_number before.now.trees db old new keeps c.args.number gains above is) clean
