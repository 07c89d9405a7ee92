use Rattle.std.proofs.Common.{sym, subst}
use Rattle.causal_context.specs.Context.{has}
use Rattle.dot_store.specs.Store.{HasEachKnown}
use Rattle.causal_join.specs.OrMap.{fields_at}
use Rattle.causal_join.proofs.fields.FieldsDotStore.join_into.Goals as goal

pub join_into-requires : goal.join_into-requires
join_into-requires g c = subst (λ fields. HasEachKnown (fields_at fields) (has c.args.theirs.now) c.args.found.now) (sym c.self.view_is) c.requires

pub returns-clause-ok : goal.returns-clause-ok
returns-clause-ok g c = rw (← c.self.view_is, ← c.yours.view_is) c.join_into.ensures.ok
