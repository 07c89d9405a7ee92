use Rattle.std.proofs.Common.{sym, subst}
use Rattle.causal_context.specs.Context.{has}
use Rattle.sync_model.specs.Laws.{KnowsEachDot}
use Rattle.replica_core.proofs.MappedPair.{mapped}
use Rattle.replica_core.proofs.WithinLive.{live_within}
use Rattle.replica_core.proofs.asking.begin.Goals as goal

pub open-requires : goal.open-requires
open-requires g c =
    let live = c.args.live.now.0 in
    let is = mapped live c.store.result.now c.store.ensures.value c.store.ensures.filled c.store.ensures.canonical in
    subst (λ s. KnowsEachDot (has c.context.result.now) s.1) (sym c.store.ensures.value)
    (subst (λ x. KnowsEachDot (has x) live.0.1) (sym c.context.ensures.value)
    (live_within live c.store.ensures.inside (λ key fs e. (is.ordered key fs e).ordered)))

pub returns-clause-map : goal.returns-clause-map
returns-clause-map g c = mapped c.args.live.now.0 c.store.result.now c.store.ensures.value c.store.ensures.filled c.store.ensures.canonical
