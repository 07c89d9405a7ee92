-- The values that a page names and that who asks for it lacks. Of this project.
use Rattle.std.specs.Prelude.{ℕ, zero, suc, Bool, not, List, [], ◌∷◌, map}
use Rattle.std.specs.List.{filter, flat_map}
use Rattle.std.specs.FinMap as finite
use Rattle.dots.specs.Bytes.{bytes_cmp}
use Rattle.dots.specs.Dot.{DotValue}
use Rattle.causal_join.specs.OrMap.{ValuesValue, FieldsValue}
use Rattle.hash_path.specs.Map.{by_path}
use Rattle.hash_path.specs.Summary.{under_index}

module _ (known : DotValue → Bool) where
  -- the values of a field whose dots are not known, in the order of the dots
  abbrev pub unknown_in_values : ValuesValue → List (List ℕ)
  unknown_in_values vs = map (λ v. v.1) (filter (λ v. not (known v.0)) vs)

  -- those of the fields of a key, in the order of the fields, and those of several keys, in the order of the keys
  abbrev pub unknown_in_fields : FieldsValue → List (List ℕ)
  unknown_in_fields = flat_map (λ f. unknown_in_values f.1)

  abbrev pub unknown_in : List (List ℕ × FieldsValue) → List (List ℕ)
  unknown_in = flat_map (λ e. unknown_in_fields e.1)

  -- those that the page of entries by word names, where so many indices are left: a branch names none
  abbrev pub unknown_on_page : ℕ → List (List ℕ × FieldsValue) → List (List ℕ)
  unknown_on_page height [] = []
  unknown_on_page height (e ∷ []) = unknown_in (e ∷ [])
  unknown_on_page zero (e ∷ f ∷ es) = unknown_in (e ∷ f ∷ es)
  unknown_on_page (suc below) (e ∷ f ∷ es) = []

  -- the same of the entries whose word begins with a prefix
  abbrev pub unknown_under : List ℕ → ℕ → List (List ℕ × FieldsValue) → List (List ℕ)
  unknown_under [] height es = unknown_on_page height es
  unknown_under (i ∷ p) zero es = []
  unknown_under (i ∷ p) (suc below) es = unknown_under p below (under_index i es)

  -- those that the page of a finite map at a prefix names
  abbrev pub unknown_at : (List ℕ → ℕ) → finite.FinMap bytes_cmp FieldsValue → List ℕ → List (List ℕ)
  unknown_at hash_of m prefix = unknown_under prefix 7 (by_path hash_of m)
