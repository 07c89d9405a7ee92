use Rattle.std.proofs.Common.{◌↔◌, IsTrue, subst}
use Rattle.causal_join.specs.OrMap.{fields_at}
use Rattle.dot_store.specs.Store.{HoldsSame}
use Rattle.causal_join.proofs.fields.FieldsDotStore.same.Goals as goal

pub returns : goal.returns
returns g c =
    subst (λ fields. IsTrue c.same.result ↔ HoldsSame (fields_at c.args.self.now) (fields_at fields)) c.other.view_is
    (subst (λ fields. IsTrue c.same.result ↔ HoldsSame (fields_at fields) (fields_at c.other.inside.values)) c.self.view_is c.same.ensures)
