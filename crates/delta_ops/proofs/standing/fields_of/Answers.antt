use Rattle.std.proofs.Common.{sym, ap, ◌∙◌}
use Rattle.causal_join.specs.OrMap.{fields_at}
use Rattle.dot_store.specs.Stores.{at_stores, held_by}
use Rattle.delta_ops.proofs.AsOrMap.{lookup_is}
use Rattle.delta_ops.proofs.standing.fields_of.Goals as goal

pub returns-clause-held : goal.returns-clause-held
unfolding at_stores
returns-clause-held g c = λ place d.
    ap (λ o. held_by fields_at o place d)
    (lookup_is c.args.store.now.1 c.args.key.now ∙ sym c.get.ensures.store)
