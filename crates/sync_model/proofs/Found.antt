-- Look-up in a list of entries, by what is in it.
use Rattle.std.proofs.Common.{◌≡◌, inl, inr, ℕ, List, [], ◌∷◌, Bool, true, false, cond, Some, None, refl, sym, ◌∙◌, ap}
use Rattle.std.specs.Prelude.{Option}
use Rattle.std.specs.Ordering.{eq_by_cmp}
use Rattle.std.specs.FinMap.Entries.{find}
use Rattle.std.proofs.lemmas.Option.{same_Some}
use Rattle.dots.specs.Bytes.{bytes_cmp}
use Rattle.hash_path.proofs.Words.{tied_same, same_tied}
use Rattle.sync_model.proofs.Members.{In}

module _ {X : Type 0} where
  -- what is found is there, and what is there is not missed
  pub find_in : (q : List ℕ) (es : List (List ℕ × X)) (v : X) → find bytes_cmp q es ≡ Some v → In es (q, v)
  find_in q [] v e = absurd cc
  find_in q (x ∷ es) v e = step (eq_by_cmp bytes_cmp q x.0) refl e (find_in q es v)
    where
      step : (b : Bool) → eq_by_cmp bytes_cmp q x.0 ≡ b → cond b (Some x.1) (find bytes_cmp q es) ≡ Some v → (find bytes_cmp q es ≡ Some v → In es (q, v))
          → In (x ∷ es) (q, v)
      step true t s further = let key = tied_same q x.0 t in let value = same_Some x.1 v s in inl (λ k. (sym key k, value k))
      step false t s further = inr (further s)

  pub none_in : (q : List ℕ) (es : List (List ℕ × X)) (v : X) → find bytes_cmp q es ≡ None → ¬ In es (q, v)
  none_in q [] v e h = h
  none_in q (x ∷ es) v e h = step (eq_by_cmp bytes_cmp q x.0) refl e h (none_in q es v)
    where
      step : (b : Bool) → eq_by_cmp bytes_cmp q x.0 ≡ b → cond b (Some x.1) (find bytes_cmp q es) ≡ None → In (x ∷ es) (q, v)
          → (find bytes_cmp q es ≡ None → In es (q, v) → ⊥) → ⊥
      step true t s h further = absurd cc
      step false t s (inl same) further =
          absurd (let tied : eq_by_cmp bytes_cmp q x.0 ≡ true = same_tied q x.0 (sym (ap (λ c. c.0) same)) in let off : false ≡ true = sym t ∙ tied in cc)
      step false t s (inr rest) further = further s rest

  -- so a list that has just one map's entry at a key finds it
  pub find_is : (q : List ℕ) (es : List (List ℕ × X)) (held : Option X) → ((v : X) → In es (q, v) → held ≡ Some v) → ((v : X) → held ≡ Some v → In es (q, v))
      → find bytes_cmp q es ≡ held
  find_is q es held each has = step (find bytes_cmp q es) held refl refl
    where
      step : (found held_there : Option X) → find bytes_cmp q es ≡ found → held ≡ held_there → found ≡ held_there
      step None None e h = refl
      step None (Some v) e h = absurd (none_in q es v e (has v h))
      step (Some v) there e h = sym (each v (find_in q es v e)) ∙ h
