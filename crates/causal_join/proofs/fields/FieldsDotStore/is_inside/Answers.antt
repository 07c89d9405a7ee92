use Rattle.std.proofs.Common.{◌↔◌, IsTrue, subst}
use Rattle.causal_context.specs.Context.{has}
use Rattle.op_model.specs.State.{IsInside}
use Rattle.causal_join.specs.OrMap.{fields_at}
use Rattle.dot_store.specs.Store.{state_with}
use Rattle.causal_join.proofs.fields.FieldsDotStore.is_inside.Goals as goal

pub returns : goal.returns
returns g c = subst (λ fields. IsTrue c.is_inside.result ↔ IsInside (state_with (fields_at fields) (has c.args.context.now))) c.self.view_is c.is_inside.ensures
