-- A list that is gone through: what is left, and what was done with the others.
use Rattle.std.proofs.Common.{◌≡◌, List, [], ◌∷◌, sym, subst, inl, inr, ⊎_elim}
use Rattle.std.specs.Prelude.{◌⊎◌}
use Rattle.trie_map.proofs.Visits.{Among}

module _ {X : Type 0} (all : List X) where
  -- each item is still to come, or was done
  abbrev pub Passes : List X → (X → Type 0) → Type 0
  Passes rest Done = (x : X) → Among all x → Among rest x ⊎ Done x

  pub passes_none : (rest : List X) (Done : X → Type 0) → rest ≡ all → Passes rest Done
  passes_none rest Done is x h = inl (subst (λ xs. Among xs x) (sym is) h)

  pub passes_more : (rest more : List X) (x : X) (Done Then : X → Type 0) → Passes rest Done → rest ≡ x ∷ more → Then x → ((y : X) → Done y → Then y)
      → Passes more Then
  passes_more rest more x Done Then before is here on y h =
      ⊎_elim (λ there. ⊎_elim (λ e. inr (subst Then e here)) (λ later. inl later) there) (λ was. inr (on y was))
      (subst (λ xs. Among xs y ⊎ Done y) is (before y h))

  pub passes_all : (rest : List X) (Done : X → Type 0) → Passes rest Done → rest ≡ [] → (x : X) → Among all x → Done x
  passes_all rest Done before is x h = ⊎_elim (λ there. absurd (subst (λ xs. Among xs x) is there)) (λ done. done) (before x h)
