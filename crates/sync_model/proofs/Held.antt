-- What stands at a field of a key and at a dot, by look-ups in lists.
use Rattle.std.proofs.Common.{◌≡◌, ℕ, List, [], ◌∷◌, cond, Some, None, refl, sym, ◌∙◌, ap}
use Rattle.std.specs.Prelude.{Option}
use Rattle.std.specs.Ordering.{eq_by_cmp}
use Rattle.std.specs.BTreeMap.{is_at}
use Rattle.std.specs.Map.{lookup}
use Rattle.std.specs.FinMap.Entries.{find}
use Rattle.dots.specs.Bytes.{bytes_cmp}
use Rattle.dots.specs.Dot.{DotValue, same_dot}
use Rattle.causal_context.specs.Dots.{dot_cmp}
use Rattle.causal_context.proofs.Dots.{is_eq-dot_cmp}
use Rattle.causal_join.specs.OrMap.{ValuesValue, FieldsValue}
use Rattle.dot_store.specs.Stores.{at_values, at_stores, held_by}
use Rattle.sync_model.specs.Opened.{held_in}

abbrev pub fields_or_none : Option FieldsValue → FieldsValue
fields_or_none None = []
fields_or_none (Some fields) = fields

abbrev pub values_or_none : Option ValuesValue → ValuesValue
values_or_none None = []
values_or_none (Some values) = values

abbrev pub values_of_field : FieldsValue → List ℕ → ValuesValue
values_of_field fields field = values_or_none (find bytes_cmp field fields)

-- the same look-up in lists
abbrev pub there : Option FieldsValue → List ℕ → DotValue → Option (List ℕ)
there o f d = find dot_cmp d (values_of_field (fields_or_none o) f)

find_values : (vs : ValuesValue) (d : DotValue) → find dot_cmp d vs ≡ lookup (same_dot d) vs
find_values [] d = refl
find_values (v ∷ vs) d = (λ k. cond (is_eq-dot_cmp d v.0 k) (Some v.1) (find_values vs d k))

find_fields : (fs : FieldsValue) (f : List ℕ) → find bytes_cmp f fs ≡ lookup (is_at (bytes_cmp f)) fs
find_fields [] f = refl
find_fields (x ∷ fs) f = ap (cond (eq_by_cmp bytes_cmp f x.0) (Some x.1)) (find_fields fs f)

pub held_there : (o : Option FieldsValue) (f : List ℕ) (d : DotValue) → held_in o f d ≡ there o f d
unfolding at_values at_stores
held_there None f d = refl
held_there (Some fs) f d = step (find bytes_cmp f fs) (find_fields fs f)
  where
    step : (o : Option ValuesValue) → o ≡ lookup (is_at (bytes_cmp f)) fs → held_by at_values (lookup (is_at (bytes_cmp f)) fs) tt d
        ≡ find dot_cmp d (values_or_none o)
    step None e = ap (λ l. held_by at_values l tt d) (sym e)
    step (Some vs) e = ap (λ l. held_by at_values l tt d) (sym e) ∙ sym (find_values vs d)
