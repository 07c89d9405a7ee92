-- The children of a page are put to what is waited for from the last one on, and so are its entries to what is built.
use Rattle.std.proofs.Common.{◌≡◌, ℕ, List, [], ◌∷◌, ◌++◌, refl, sym, ◌∙◌, ap}
use Rattle.std.specs.FinMap as finite
use Rattle.causal_join.specs.OrMap.{FieldsValue}
use Rattle.sync_model.specs.Differ.{Held}
use Rattle.sync_model.specs.Fetch.{Waiting, put_children, put_entry, put_entries}
use Rattle.page_fetching.specs.Building.{BuiltValue, GoesOn}
use Rattle.page_fetching.proofs.Going.{goes_further}

module _ (p : List ℕ) where
  last_put : (cs : List (ℕ × List ℕ)) (c : ℕ × List ℕ) (w : Waiting) → put_children p (cs ++ c ∷ []) w ≡ put_children p cs (finite.insert w (p ++ c.0 ∷ []) c.1)
  last_put [] c w = refl
  last_put (d ∷ cs) c w = ap (λ m. finite.insert m (p ++ d.0 ∷ []) d.1) (last_put cs c w)

  -- one child more
  pub one_put : (all old new : Waiting) (left rest : List (ℕ × List ℕ)) (c : ℕ × List ℕ) → put_children p left old ≡ all → left ≡ rest ++ c ∷ []
      → new ≡ finite.insert old (p ++ c.0 ∷ []) c.1
      → put_children p rest new ≡ all
  one_put all old new left rest c before is put = ap (put_children p rest) put ∙ sym (last_put rest c old) ∙ ap (λ cs. put_children p cs old) (sym is) ∙ before

  -- and none is left
  pub all_put : (all now : Waiting) (left : List (ℕ × List ℕ)) → put_children p left now ≡ all → left ≡ [] → now ≡ all
  all_put all now left before is = ap (λ cs. put_children p cs now) (sym is) ∙ before

last_entry : (es : List (List ℕ × FieldsValue)) (e : List ℕ × FieldsValue) (m : Held) → put_entries (es ++ e ∷ []) m ≡ put_entries es (put_entry e.0 e.1 m)
last_entry [] e m = refl
last_entry (d ∷ es) e m = ap (put_entry d.0 d.1) (last_entry es e m)

-- one entry more
pub one_entry : {Hash : Type 0} (start old new : BuiltValue Hash) (all : Held) (left rest : List (List ℕ × FieldsValue)) (e : List ℕ × FieldsValue)
    → (put_entries left old.entries ≡ all) × GoesOn start old → left ≡ rest ++ e ∷ [] → new.entries ≡ put_entry e.0 e.1 old.entries → GoesOn old new
    → (put_entries rest new.entries ≡ all) × GoesOn start new
one_entry start old new all left rest e before is put goes = (
  ap (put_entries rest) put ∙ sym (last_entry rest e old.entries) ∙ ap (λ es. put_entries es old.entries) (sym is) ∙ before.0,
  goes_further start old new before.1 goes,
)
