-- The keys under one prefix, one after another.
use Rattle.std.proofs.Common.{◌≡◌, ◌⊎◌, inl, inr, ℕ, List, [], ◌∷◌, true, Some, refl, sym, subst}
use Rattle.std.specs.List.{Contains}
use Rattle.std.specs.Prelude.{Option}
use Rattle.std.specs.FinMap as finite
use Rattle.hash_path.specs.Word.{begins}
use Rattle.hash_path.specs.Map.{path, walk_under}
use Rattle.causal_join.specs.OrMap.{FieldsValue}
use Rattle.sync_model.specs.Differ.{Held}
use Rattle.sync_model.proofs.Members.{In, part_has, part_found}
use Rattle.map_changes.specs.Changes.{AreSame, IsChanged}

module _ (these others : Held) where
  -- of the entries some are left to be looked at, and the others' keys are found where they are changed
  pub record LooksAt (all left : List (List ℕ × FieldsValue)) (found : List (List ℕ)) : Type 0 where
    pub part : (e : List ℕ × FieldsValue) → In left e → In all e
    pub gone : (e : List ℕ × FieldsValue) → In all e → In left e ⊎ (IsChanged these others e.0 → Contains found e.0)

  pub all_left : (all : List (List ℕ × FieldsValue)) (found : List (List ℕ)) → LooksAt all all found
  all_left all found = record { part = λ e h. h; gone = λ e h. inl h }

  -- one more is looked at, and found where it is changed; what was found is
  pub one_less : (all left rest : List (List ℕ × FieldsValue)) (key : List ℕ) (fields : FieldsValue) (old new : List (List ℕ)) → LooksAt all left old
      → left ≡ (key, fields) ∷ rest
      → ((q : List ℕ) → Contains old q → Contains new q) → (IsChanged these others key → Contains new key) → LooksAt all rest new
  one_less all left rest key fields old new before is kept here = record {
    part = λ e h. before.part e (subst (λ l. In l e) (sym is) (inr h));
    gone = λ e h. step e (before.gone e h);
  }
    where
      first : (e : List ℕ × FieldsValue) → In ((key, fields) ∷ rest) e → In rest e ⊎ (IsChanged these others e.0 → Contains new e.0)
      first e (inl same) = inr (subst (λ (x : List ℕ × FieldsValue). IsChanged these others x.0 → Contains new x.0) same here)
      first e (inr h) = inl h

      step : (e : List ℕ × FieldsValue) → In left e ⊎ (IsChanged these others e.0 → Contains old e.0) → In rest e
          ⊎ (IsChanged these others e.0 → Contains new e.0)
      step e (inl h) = first e (subst (λ l. In l e) is h)
      step e (inr f) = inr (λ differs. kept e.0 (f differs))

  -- what is looked at next is of the map
  pub next_there : (hash_of : List ℕ → ℕ) (prefix : List ℕ) (left rest : List (List ℕ × FieldsValue)) (key : List ℕ) (fields : FieldsValue)
      (found : List (List ℕ))
      → LooksAt (walk_under hash_of prefix these) left found → left ≡ (key, fields) ∷ rest → finite.get these key ≡ Some fields
  next_there hash_of prefix left rest key fields found looks is =
      let first : In left (key, fields) = subst (λ (l : List (List ℕ × FieldsValue)). In l (key, fields)) (sym is) (inl refl) in
      (part_found hash_of these prefix key fields (looks.part (key, fields) first)).0

  pub none_left : (hash_of : List ℕ → ℕ) (prefix : List ℕ) (left : List (List ℕ × FieldsValue)) (found : List (List ℕ))
      → LooksAt (walk_under hash_of prefix these) left found → left ≡ []
      → (key : List ℕ) (fields : FieldsValue) → finite.get these key ≡ Some fields → begins prefix (path hash_of key) ≡ true → IsChanged these others key
      → Contains found key
  none_left hash_of prefix left found looks is key fields e under differs = step (looks.gone (key, fields) (part_has hash_of these prefix key fields e under))
    where
      step : In left (key, fields) ⊎ (IsChanged these others key → Contains found key) → Contains found key
      step (inl h) = absurd (subst (λ (l : List (List ℕ × FieldsValue)). In l (key, fields)) is h)
      step (inr f) = f differs

  -- whether what stands at a key of the one is the same in the other
  pub changed_here : (key : List ℕ) (fields : FieldsValue) (o : Option FieldsValue) → finite.get these key ≡ Some fields → o ≡ finite.get others key
      → ¬ AreSame (Some fields) o → IsChanged these others key
  changed_here key fields o here there differs = λ same. differs (subst (λ x. AreSame x o) here (subst (AreSame (finite.get these key)) (sym there) same))

  pub same_here : (key : List ℕ) (fields : FieldsValue) (o : Option FieldsValue) → finite.get these key ≡ Some fields → o ≡ finite.get others key
      → AreSame (Some fields) o → ¬ IsChanged these others key
  same_here key fields o here there same = λ differs. differs (subst (AreSame (finite.get these key)) there (subst (λ x. AreSame x o) (sym here) same))
