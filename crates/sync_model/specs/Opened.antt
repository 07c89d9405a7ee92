-- What an asker comes to hold at a key by a session: what its peer held there when it opened, but for the values that the
-- asker had seen and no longer holds, which it saw end. Of this project.
use Rattle.std.specs.Prelude.{ℕ, Bool, ◌||◌, not, List, [], ◌∷◌, Option, Some, None, is_some}
use Rattle.std.specs.List.{filter}
use Rattle.dots.specs.Dot.{DotValue}
use Rattle.causal_join.specs.OrMap.{ValuesValue, FieldsValue, fields_at}
use Rattle.dot_store.specs.Stores.{held_by}

-- what stands at a field of a key and at a dot, where the key may be missing
abbrev pub held_in : Option FieldsValue → List ℕ → DotValue → Option (List ℕ)
held_in fields field d = held_by fields_at fields (field, tt) d

-- the fields that hold a value
abbrev pub with_values : List ℕ → ValuesValue → FieldsValue → FieldsValue
with_values field [] rest = rest
with_values field (v ∷ vs) rest = (field, v ∷ vs) ∷ rest

-- a key with these fields, if there are any
abbrev pub some_if_any : FieldsValue → Option FieldsValue
some_if_any [] = None
some_if_any (f ∷ fs) = Some (f ∷ fs)

module _ (seen : DotValue → Bool) where
  -- of the values at a field, those whose dots the asker had not seen or holds there
  abbrev pub without_ended : (DotValue → Option (List ℕ)) → ValuesValue → ValuesValue
  without_ended held = filter (λ v. not (seen v.0) || is_some (held v.0))

  -- the same of the fields of a key
  abbrev pub open_fields : (List ℕ → DotValue → Option (List ℕ)) → FieldsValue → FieldsValue
  open_fields held [] = []
  open_fields held (f ∷ fs) = with_values f.0 (without_ended (held f.0) f.1) (open_fields held fs)

  -- what the asker, which held the first at a key, comes to hold there by the second
  abbrev pub opened_at : Option FieldsValue → Option FieldsValue → Option FieldsValue
  opened_at own None = None
  opened_at own (Some theirs) = some_if_any (open_fields (held_in own) theirs)
