-- How the names on a page become values again: a dot that the asker had not seen takes the next of the values that came
-- with the page; one that it had seen and holds at that field keeps its own value; one that it had seen and does not hold
-- there is left out, since the asker saw it end. Each value has to be of the SHA-256 that the page names. Of this project.
use Rattle.std.specs.Prelude.{ℕ, Bool, List, [], ◌∷◌, Option, Some, None, cond}
use Rattle.std.specs.Str.{bytes_eq}
use Rattle.std.specs.FinMap as finite
use Rattle.dots.specs.Bytes.{bytes_cmp}
use Rattle.dots.specs.Dot.{DotValue}
use Rattle.causal_join.specs.OrMap.{ValuesValue, FieldsValue}
use Rattle.sha2.specs.Sha256.{sha256}
use Rattle.wire_form.specs.Page.{NamesValue, NamedValue, EntryValue}
use Rattle.sync_model.specs.Opened.{held_in, with_values}

-- what was made, and the values that are left of those sent
abbrev pub Made : Type 0 → Type 0
Made X = Option (X × List (List ℕ))

-- the same with what is made of it
abbrev pub made_map : {X Y : Type 0} → (X → Y) → Made X → Made Y
made_map f None = None
made_map f (Some m) = Some (f m.0, m.1)

-- a value before the others, if it has the name
abbrev pub checked : DotValue → List ℕ → List ℕ → Made ValuesValue → Made ValuesValue
checked d name v rest = cond (bytes_eq (sha256 v) name) (made_map (λ vs. (d, v) ∷ vs) rest) None

-- one dot, by what the asker holds there, where the others are made of what is left
abbrev pub fill_unseen : DotValue → List ℕ → (List (List ℕ) → Made ValuesValue) → List (List ℕ) → Made ValuesValue
fill_unseen d name rest [] = None
fill_unseen d name rest (v ∷ sent) = checked d name v (rest sent)

abbrev pub fill_seen : DotValue → List ℕ → Option (List ℕ) → (List (List ℕ) → Made ValuesValue) → List (List ℕ) → Made ValuesValue
fill_seen d name None rest sent = rest sent
fill_seen d name (Some v) rest sent = checked d name v (rest sent)

-- a field before the others, if it holds a value, and a key before the others
abbrev pub then_fields : List ℕ → (List (List ℕ) → Made FieldsValue) → Made ValuesValue → Made FieldsValue
then_fields field rest None = None
then_fields field rest (Some m) = made_map (with_values field m.0) (rest m.1)

abbrev pub then_entries : List ℕ → (List (List ℕ) → Made (List (List ℕ × FieldsValue))) → Made FieldsValue → Made (List (List ℕ × FieldsValue))
then_entries key rest None = None
then_entries key rest (Some m) = made_map (λ es. (key, m.0) ∷ es) (rest m.1)

-- the entries, where no value is left over
abbrev pub all_used : Made (List (List ℕ × FieldsValue)) → Option (List (List ℕ × FieldsValue))
all_used None = None
all_used (Some (es, [])) = Some es
all_used (Some (es, v ∷ sent)) = None

module _ (seen : DotValue → Bool) where
  -- the values of a field, by what the asker holds there
  abbrev pub fill_values : (DotValue → Option (List ℕ)) → NamesValue → List (List ℕ) → Made ValuesValue
  fill_values held [] sent = Some ([], sent)
  fill_values held (n ∷ ns) sent = cond (seen n.0) (fill_seen n.0 n.1 (held n.0) (fill_values held ns) sent) (fill_unseen n.0 n.1 (fill_values held ns) sent)

  -- the fields of a key that hold a value then
  abbrev pub fill_fields : (List ℕ → DotValue → Option (List ℕ)) → NamedValue → List (List ℕ) → Made FieldsValue
  fill_fields held [] sent = Some ([], sent)
  fill_fields held (f ∷ fs) sent = then_fields f.0 (fill_fields held fs) (fill_values (held f.0) f.1 sent)

  -- the entries of a page
  abbrev pub fill_entries : finite.FinMap bytes_cmp FieldsValue → List EntryValue → List (List ℕ) → Made (List (List ℕ × FieldsValue))
  fill_entries own [] sent = Some ([], sent)
  fill_entries own (e ∷ es) sent = then_entries e.0 (fill_entries own es) (fill_fields (held_in (finite.get own e.0)) e.1 sent)

  -- and that of just the values sent
  abbrev pub filled : finite.FinMap bytes_cmp FieldsValue → List EntryValue → List (List ℕ) → Option (List (List ℕ × FieldsValue))
  filled own es sent = all_used (fill_entries own es sent)
