use Rattle.std.proofs.Common.{◌≡◌, inr, map, refl, sym, ap, subst}
use Rattle.std.specs.Prelude.{OnErr, OnOk}
use Rattle.std.proofs.lemmas.Result.{on_ok_weaker, on_err_weaker}
use Rattle.delta_ops.specs.Group.{group_state}
use Rattle.delta_ops.specs.LiveMap.{live_state}
use Rattle.causal_join.specs.OrMap.{or_map_state}
use Rattle.replica_model.specs.Replica.{makes}
use Rattle.replica_alone.specs.Waiting.{Queues}
use Rattle.replica_core.specs.Meaning.{ReplicaValue, meaning, waiting_in}
use Rattle.replica_core.proofs.Growth.{same_grown, joined_grown}
use Rattle.replica_core.proofs.Meant.{of_parts, meaning_by, by_result, both_on_ok, both_on_err}
use Rattle.replica_core.proofs.Pairs.{join-unknown}
use Rattle.replica_core.proofs.replica.Replica.make.Goals as goal

pub returns-then-is_empty-clause-ok : goal.returns-then-is_empty-clause-ok
returns-then-is_empty-clause-ok g c =
    let none = rw c.context.ensures.value at (c.is_empty.ensures.0 c.if-is_empty.true) in
    meaning_by c.args.self.now (makes (meaning c.args.self.now) (or_map_state c.args.delta)) refl
    (join-unknown (live_state c.args.self.now.live.0) c.args.delta c.context.ensures.inside none)
    (join-unknown (group_state c.args.self.now.group) c.args.delta c.context.ensures.inside none) refl refl refl

pub invariant_of-self : goal.invariant_of-self
invariant_of-self g c =
    by_result c.make_in.result
    (λ joined. joined_grown g.H.PathHash.hash_of _ _ (or_map_state c.args.delta) c.self.invariant refl refl refl refl c.make_in.ensures.hash joined)
    (λ kept. same_grown g.H.PathHash.hash_of _ _ c.self.invariant refl refl refl refl kept)
    c.make_in.ensures.live c.make_in.ensures.kept

pub returns-clause-ok : goal.returns-clause-ok
returns-clause-ok g c =
    let old = of_parts c.self.inside.name c.self.inside.live c.self.inside.group
    c.self.inside.opened c.self.inside.sessions.items c.self.inside.answerer in
    let new = of_parts c.self.inside.name c.make_in.new.live c.make_in.new.group
    c.self.inside.opened c.self.inside.sessions.items c.self.inside.answerer in
    both_on_ok c.make_in.result
    (λ live group. rw (sym c.self.view_is) (meaning_by new (makes (meaning old) (or_map_state c.args.delta)) refl live group refl refl refl))
    c.make_in.ensures.live c.make_in.ensures.group

pub returns-clause-unchanged : goal.returns-clause-unchanged
returns-clause-unchanged g c =
    let old = of_parts c.self.inside.name c.self.inside.live c.self.inside.group
    c.self.inside.opened c.self.inside.sessions.items c.self.inside.answerer in
    let new = of_parts c.self.inside.name c.make_in.new.live c.make_in.new.group
    c.self.inside.opened c.self.inside.sessions.items c.self.inside.answerer in
    both_on_err c.make_in.result
    (λ kept group. rw (sym c.self.view_is) (meaning_by new (meaning old) refl (ap live_state kept) (ap group_state group) refl refl refl))
    c.make_in.ensures.kept c.make_in.ensures.grouped

pub returns-then-is_empty-clause-waits : goal.returns-then-is_empty-clause-waits
returns-then-is_empty-clause-waits g c =
    let none = rw c.context.ensures.value at (c.is_empty.ensures.0 c.if-is_empty.true) in
    inr (inr (none, refl))

pub returns-clause-waits : goal.returns-clause-waits
returns-clause-waits g c =
    subst (λ (r : ReplicaValue _). OnOk c.make_in.result (Queues (waiting_in r) (or_map_state c.args.delta) (map or_map_state c.make_in.new.group)))
    c.self.view_is c.make_in.ensures.waits

pub returns-clause-waiting : goal.returns-clause-waiting
returns-clause-waiting g c =
    subst (λ (r : ReplicaValue _). OnErr c.make_in.result (map or_map_state c.make_in.new.group ≡ waiting_in r)) c.self.view_is
    (on_err_weaker c.make_in.result (ap (map or_map_state)) c.make_in.ensures.grouped)
