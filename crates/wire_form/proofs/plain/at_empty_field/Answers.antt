use Rattle.std.proofs.Common.{◌≡◌, ◌↔◌, ◌++◌, ◌∷◌, [], ◌∙◌, subst}
use Rattle.std.specs.Prelude.{IsSome}
use Rattle.std.specs.List.Sorted.{IsStrictlySortedBy}
use Rattle.std.specs.Map.{keys_of}
use Rattle.dots.specs.Bytes.{bytes_cmp}
use Rattle.dot_store.specs.Stores.{at_values, NoKeyIsEmpty}
use Rattle.causal_join.specs.OrMap.{FieldsValue}
use Rattle.wire_form.specs.Store.{alone}
use Rattle.wire_form.proofs.plain.at_empty_field.Goals as goal

pub returns-clause-canonical : goal.returns-clause-canonical
returns-clause-canonical g c =
    let made : FieldsValue = c.push.new.self.items in
    let e : made ≡ alone c.args.values = c.in_ok-push.ensures.items ∙ (λ i. c.in_ok-entries.ensures.items i ++ (c.empty.ensures i, c.args.values) ∷ []) in
    subst (λ (es : FieldsValue). IsSome c.from_entries.result ↔ (IsStrictlySortedBy bytes_cmp (keys_of es) × NoKeyIsEmpty at_values es))
    e c.from_entries.ensures.canonical
