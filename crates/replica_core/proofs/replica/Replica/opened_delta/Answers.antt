use Rattle.std.proofs.Common.{◌≡◌, sym, ap, ◌∙◌, subst}
use Rattle.std.proofs.lemmas.Option.{IfSome_then}
use Rattle.std.proofs.lemmas.Result.{IfOk-weaker}
use Rattle.causal_context.specs.Context.{has}
use Rattle.causal_join.specs.OrMap.{or_map_state}
use Rattle.delta_ops.specs.LiveMap.{live_state}
use Rattle.op_model.specs.Meaning.{greater}
use Rattle.op_model.specs.State.{join}
use Rattle.sync_model.specs.Closing as closing
use Rattle.sync_model.specs.Closing.{IsBelow}
use Rattle.sync_model.specs.Differ.{Held}
use Rattle.replica_core.specs.Meaning.{ReplicaValue, meaning}
use Rattle.replica_core.proofs.Brought.{delta_joined}
use Rattle.replica_core.proofs.Opened.{opened_builds}
use Rattle.replica_core.proofs.replica.Replica.opened_delta.Goals as goal

pub opened_delta-requires : goal.opened_delta-requires
opened_delta-requires g c =
    let opened = c.args.opened.now in
    opened_builds c.self.inside.live.0 opened.base c.entries.result.now opened.seen c.touched.result.now opened.context opened.built
    (subst (λ (r : ReplicaValue _). IsBelow (closing.held_state opened.base.map (has opened.seen)) (meaning r).live) (sym c.self.view_is) c.requires.below)
    c.requires.rest c.requires.known c.entries.ensures.map c.touched.ensures

pub returns-clause-ok : goal.returns-clause-ok
returns-clause-ok g c =
    let context = c.args.opened.now.context in
    let live = c.self.inside.live.0 in
    IfOk-weaker c.opened_delta.result _ _
    (λ found is. IfSome_then found is (λ delta same. subst (λ (r : ReplicaValue _).
    join greater (meaning r).live (closing.held_state c.args.opened.now.built.entries (has context)) ≡ join greater (meaning r).live
    (or_map_state delta)) c.self.view_is
    (ap (λ (m : Held). join greater (live_state live) (closing.held_state m (has context))) (sym c.entries.ensures.map)
    ∙ delta_joined c.entries.result.now.hash live c.entries.result.now.map context delta same)))
    c.opened_delta.ensures.ok
