-- Fields that hold something, and are filled when they are named.
use Rattle.std.proofs.Common.{◌≤◌, [], ◌∷◌, length, arith, refl}
use Rattle.std.specs.List.{AllByRecursion}
use Rattle.std.specs.Map.{values_of}
use Rattle.std.proofs.lemmas.List.Elements.{All-head, All-tail}
use Rattle.causal_join.specs.OrMap.{ValuesValue, FieldsValue, fields_at}
use Rattle.dot_store.specs.Store.{HasNothing}
use Rattle.dot_store.specs.Stores.{at_values, at_stores, NoKeyIsEmpty}
use Rattle.prefix_digest.specs.Page.{named_values, named_fields}
use Rattle.wire_form.specs.Sent.{IsFilled}

-- values of which there are some
some_dot : (vs : ValuesValue) → ¬ HasNothing (at_values vs) → 1 ≤ length (named_values vs)
unfolding at_values
some_dot [] filled = absurd (filled (λ place dot. refl))
some_dot (v ∷ vs) filled = omega arith

each_has : (fs : FieldsValue) → NoKeyIsEmpty at_values fs → AllByRecursion (λ f. 1 ≤ length f.1) (named_fields fs)
each_has [] each = tt
each_has (f ∷ fs) each = (
  some_dot f.1 (All-head (λ vs. ¬ HasNothing (at_values vs)) f.1 (values_of fs) each),
  each_has fs (All-tail (λ vs. ¬ HasNothing (at_values vs)) f.1 (values_of fs) each),
)

pub fields_filled : (fs : FieldsValue) → NoKeyIsEmpty at_values fs → ¬ HasNothing (fields_at fs) → IsFilled (named_fields fs)
unfolding at_stores
fields_filled [] each some = absurd (some (λ place dot. refl))
fields_filled (f ∷ fs) each some = (omega arith, each_has (f ∷ fs) each)
