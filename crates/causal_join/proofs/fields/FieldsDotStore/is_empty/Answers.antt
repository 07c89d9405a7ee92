use Rattle.std.proofs.Common.{◌↔◌, IsTrue, subst}
use Rattle.std.specs.List.Sorted.{IsStrictlySortedBy}
use Rattle.std.specs.Map.{keys_of}
use Rattle.dots.specs.Bytes.{bytes_cmp}
use Rattle.causal_context.specs.Dots.{dot_cmp}
use Rattle.causal_join.specs.OrMap.{fields_at}
use Rattle.dot_store.specs.Store.{HasNothing}
use Rattle.dot_store.specs.Stores.{at_values, IsCanonicalMap}
use Rattle.causal_join.proofs.fields.FieldsDotStore.is_empty.Goals as goal

pub returns-clause-nothing : goal.returns-clause-nothing
returns-clause-nothing g c = subst (λ fields. IsTrue c.is_empty.result ↔ HasNothing (fields_at fields)) c.self.view_is c.is_empty.ensures.nothing

pub returns-clause-canonical : goal.returns-clause-canonical
returns-clause-canonical g c = subst (IsCanonicalMap at_values bytes_cmp (λ values. IsStrictlySortedBy dot_cmp (keys_of values)))
    c.self.view_is c.is_empty.ensures.canonical
