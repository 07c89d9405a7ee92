use Rattle.std.proofs.Common.{◌≡◌, subst, ap, ◌∙◌, IfSome}
use Rattle.std.specs.List.Sorted.{IsStrictlySortedBy}
use Rattle.std.specs.Map.{keys_of}
use Rattle.dots.specs.Bytes.{bytes_cmp}
use Rattle.dot_store.specs.Stores.{at_values, NoKeyIsEmpty}
use Rattle.causal_join.specs.OrMap.{FieldsValue}
use Rattle.wire_form.specs.Store.{is_sole, first_values}
use Rattle.wire_form.proofs.plain.values_alone.Goals as goal

pub returns-clause-sole : goal.returns-clause-sole
returns-clause-sole g c = c.values_in.ensures.sole ∙ ap is_sole c.entries-entries.ensures.rest

pub returns-clause-values : goal.returns-clause-values
returns-clause-values g c =
    subst (λ (es : FieldsValue). IfSome c.values_in.result (λ values. values.now ≡ first_values es)) c.entries-entries.ensures.rest c.values_in.ensures.values

pub returns-clause-ascend : goal.returns-clause-ascend
returns-clause-ascend g c = subst (λ (es : FieldsValue). IsStrictlySortedBy bytes_cmp (keys_of es))
    c.entries-entries.ensures.rest c.entries-entries.ensures.ordered

pub returns-clause-filled : goal.returns-clause-filled
returns-clause-filled g c = subst (λ (es : FieldsValue). NoKeyIsEmpty at_values es) c.entries-entries.ensures.rest c.entries-entries.ensures.filled
