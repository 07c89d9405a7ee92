use Rattle.std.proofs.Common.{◌≡◌, [], refl, sym, ◌∙◌}
use Rattle.std.specs.Vec.Iter.{into_iter_items}
use Rattle.std.proofs.lemmas.List.{nil_from_length}
use Rattle.ctrie_api.proofs.Runs.{others_stay, marked_stay, stopped, stopped_each, ended_each, goes_on}
use Rattle.ctrie_api.proofs.tries.Tries.run.Goals as goal

pub loop-act-init : goal.loop-act-init
loop-act-init g c = (c.into_iter-act-iterator.ensures.into_iter_gives.0, refl, refl)

pub loop-act-preserved : goal.loop-act-preserved
loop-act-preserved g c =
    goes_on c.loop-act.yielded _ _ _ _ _ _ _ _ c.loop-act.invariant.0 c.in-Some.ensures.steps.0 c.loop-act.invariant.1 c.loop-act.invariant.2
    (c.if-lacks_memory_for.ensures.done refl)

pub returns-then-lacks_memory_for-clause-err : goal.returns-then-lacks_memory_for-clause-err
returns-then-lacks_memory_for-clause-err g c =
    stopped c.loop-act.yielded _ _ _ _ _ _ _ _ c.loop-act.invariant.0 c.in-Some.ensures.steps.0 c.loop-act.invariant.1 c.loop-act.invariant.2
    (c.if-lacks_memory_for.ensures.same refl)

pub returns-then-lacks_memory_for-clause-each : goal.returns-then-lacks_memory_for-clause-each
returns-then-lacks_memory_for-clause-each g c =
    stopped_each c.loop-act.yielded _ _ _ _ _ _ _ _ c.loop-act.invariant.0 c.in-Some.ensures.steps.0 c.loop-act.invariant.1 c.loop-act.invariant.2
    (c.if-lacks_memory_for.ensures.same refl)

pub returns-clause-each : goal.returns-clause-each
returns-clause-each g c =
    let none : into_iter_items c.loop-act.act-iterator ≡ [] = nil_from_length _ (sym c.loop-act.act-iterator.rest.ok.0 ∙ c.in-None.ensures.steps.0) in
    ended_each c.loop-act.yielded _ _ _ _ c.loop-act.invariant.0 none c.loop-act.invariant.1

pub returns-then-lacks_memory_for-clause-others : goal.returns-then-lacks_memory_for-clause-others
returns-then-lacks_memory_for-clause-others g c = others_stay c.loop-act.yielded c.loop-act.act-iterator.rest.items _ _ _ c.loop-act.invariant.0
    (c.if-lacks_memory_for.ensures.same refl ∙ c.loop-act.invariant.1)

pub returns-then-lacks_memory_for-clause-read_only : goal.returns-then-lacks_memory_for-clause-read_only
returns-then-lacks_memory_for-clause-read_only g c = marked_stay {A = g.row.A.Denot} c.loop-act.yielded _ _
    (c.if-lacks_memory_for.ensures.same refl ∙ c.loop-act.invariant.1)

pub returns-clause-others : goal.returns-clause-others
returns-clause-others g c = others_stay c.loop-act.yielded c.loop-act.act-iterator.rest.items _ _ _ c.loop-act.invariant.0 c.loop-act.invariant.1

pub returns-clause-read_only : goal.returns-clause-read_only
returns-clause-read_only g c = marked_stay {A = g.row.A.Denot} c.loop-act.yielded _ _ c.loop-act.invariant.1
