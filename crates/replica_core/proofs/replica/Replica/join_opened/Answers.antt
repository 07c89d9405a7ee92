use Rattle.std.proofs.Common.{refl, sym, ap, ◌∙◌, subst}
use Rattle.causal_context.specs.Context.{has}
use Rattle.delta_ops.specs.LiveMap.{live_state}
use Rattle.op_model.specs.Meaning.{greater}
use Rattle.op_model.specs.State.{join}
use Rattle.sync_model.specs.Closing as closing
use Rattle.sync_model.specs.Closing.{IsBelow}
use Rattle.sync_model.specs.Differ.{Held}
use Rattle.replica_model.specs.Replica.{joins}
use Rattle.replica_core.specs.Meaning.{ReplicaValue, meaning}
use Rattle.replica_core.proofs.Growth.{same_grown, joined_grown}
use Rattle.replica_core.proofs.Meant.{of_parts, meaning_by, on_err}
use Rattle.replica_core.proofs.Opened.{opened_builds, opened_joined}
use Rattle.replica_core.proofs.replica.Replica.join_opened.Goals as goal

pub prepare_opened-requires : goal.prepare_opened-requires
prepare_opened-requires g c =
    let opened = c.args.opened.now in
    opened_builds c.self.inside.live.0 opened.base c.entries.result.now opened.seen c.touched.result.now opened.context opened.built
    (subst (λ (r : ReplicaValue _). IsBelow (closing.held_state opened.base.map (has opened.seen)) (meaning r).live) (sym c.self.view_is) c.requires.below)
    c.requires.rest c.requires.known c.entries.ensures.map c.touched.ensures

pub invariant_of-self : goal.invariant_of-self
invariant_of-self g c = same_grown g.H.PathHash.hash_of _ _ c.self.invariant refl refl refl refl c.in_err-next.ensures.unchanged

pub returns-in_err-next-clause-unchanged : goal.returns-in_err-next-clause-unchanged
returns-in_err-next-clause-unchanged g c =
    let old = of_parts c.self.inside.name c.self.inside.live c.self.inside.group
    c.self.inside.opened c.self.inside.sessions.items c.self.inside.answerer in
    let new = of_parts c.self.inside.name c.prepare_opened.new.self c.self.inside.group
    c.self.inside.opened c.self.inside.sessions.items c.self.inside.answerer in
    on_err c.from_residual.result
    (rw (← c.self.view_is) (meaning_by new (meaning old) refl (ap live_state c.in_err-next.ensures.unchanged) refl refl refl refl))

pub invariant_of-self-2 : goal.invariant_of-self-2
invariant_of-self-2 g c =
    joined_grown g.H.PathHash.hash_of _ _ (closing.held_state c.entries.result.now.map (has c.args.opened.now.context)) c.self.invariant refl refl refl refl
    (ap (λ p. p.0.0) c.commit.ensures ∙ c.in_ok-next.ensures.hash)
    (ap live_state c.commit.ensures ∙ opened_joined c.entries.result.now.hash c.self.inside.live.0 c.entries.result.now.map c.args.opened.now.context
    c.in_ok-next.next c.in_ok-next.ensures.ok)

pub returns-clause-ok : goal.returns-clause-ok
returns-clause-ok g c =
    let old = of_parts c.self.inside.name c.self.inside.live c.self.inside.group
    c.self.inside.opened c.self.inside.sessions.items c.self.inside.answerer in
    let new = of_parts c.self.inside.name c.commit.new.self c.self.inside.group c.self.inside.opened c.self.inside.sessions.items c.self.inside.answerer in
    rw (← c.self.view_is) (meaning_by new (joins (meaning old) (closing.held_state c.args.opened.now.built.entries (has c.args.opened.now.context))) refl
    (ap live_state c.commit.ensures ∙ opened_joined c.entries.result.now.hash c.self.inside.live.0 c.entries.result.now.map c.args.opened.now.context
    c.in_ok-next.next c.in_ok-next.ensures.ok
    ∙ ap (λ (m : Held). join greater (live_state c.self.inside.live.0) (closing.held_state m (has c.args.opened.now.context))) c.entries.ensures.map)
    refl refl refl refl)
