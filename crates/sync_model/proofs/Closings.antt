-- The law of closing: a dot that was left out is known to the live pair and stands nowhere there.
use Rattle.std.proofs.Common.{◌≡◌, inl, inr, ℕ, List, [], ◌∷◌, Bool, true, false, cond, not, Some, None, refl, sym, ◌∙◌, ap}
use Rattle.std.specs.Prelude.{Option, ◌||◌, is_some}
use Rattle.std.specs.Ordering.{eq_by_cmp}
use Rattle.std.specs.FinMap as finite
use Rattle.std.specs.FinMap.Entries.{find}
use Rattle.std.proofs.lemmas.Option.{same_Some}
use Rattle.dots.specs.Bytes.{bytes_cmp}
use Rattle.dots.specs.Dot.{DotValue}
use Rattle.causal_context.specs.Dots.{dot_cmp}
use Rattle.causal_context.proofs.Dots.{is_eq-dot_cmp, same_from_test}
use Rattle.hash_path.proofs.Words.{tied_same}
use Rattle.causal_join.specs.OrMap.{ValuesValue, FieldsValue}
use Rattle.op_model.specs.Meaning.{greater}
use Rattle.op_model.specs.Place.{Place}
use Rattle.op_model.specs.State.{joined}
use Rattle.sync_model.specs.Opened.{held_in, with_values, some_if_any, without_ended, open_fields, opened_at}
use Rattle.sync_model.proofs.Held.{fields_or_none, values_or_none, values_of_field, there, held_there}
use Rattle.sync_model.specs.Laws.{IsLawful}
use Rattle.sync_model.specs.Closing.{Closing}
use Rattle.sync_model.proofs.Members.{In, Contains-In}
use Rattle.sync_model.proofs.Found.{find_in}

-- ---- what is opened holds what was not left out

abbrev nothing : Option (List ℕ)
nothing = None

none_either : (b : Bool) → nothing ≡ cond b nothing nothing
none_either true = refl
none_either false = refl

module _ (seen : DotValue → Bool) where
  abbrev kept : Option (List ℕ) → DotValue → Bool
  kept o d = not (seen d) || is_some o

  find_kept : (held : DotValue → Option (List ℕ)) (vs : ValuesValue) (d : DotValue)
      → find dot_cmp d (without_ended seen held vs) ≡ cond (kept (held d) d) (find dot_cmp d vs) None
  find_kept held [] d = none_either (kept (held d) d)
  find_kept held (v ∷ vs) d = step (kept (held v.0) v.0) refl (eq_by_cmp dot_cmp d v.0) refl (find_kept held vs d)
    where
      same_test : eq_by_cmp dot_cmp d v.0 ≡ true → kept (held v.0) v.0 ≡ kept (held d) d
      same_test t = let same = same_from_test d v.0 (sym (is_eq-dot_cmp d v.0) ∙ t) in ap (λ c. kept (held c) c) (sym same)

      step : (b : Bool) → kept (held v.0) v.0 ≡ b → (t : Bool) → eq_by_cmp dot_cmp d v.0 ≡ t
          → find dot_cmp d (without_ended seen held vs) ≡ cond (kept (held d) d) (find dot_cmp d vs) None
          → find dot_cmp d (cond b (v ∷ without_ended seen held vs) (without_ended seen held vs))
          ≡ cond (kept (held d) d) (cond t (Some v.1) (find dot_cmp d vs)) None
      step true e true s rest = (λ k. cond (s k) (Some v.1) (find dot_cmp d (without_ended seen held vs)))
          ∙ (λ k. cond (sym (sym (same_test s) ∙ e) k) (Some v.1) None)
      step true e false s rest = (λ k. cond (s k) (Some v.1) (find dot_cmp d (without_ended seen held vs))) ∙ rest
      step false e true s rest = rest ∙ (λ k. cond ((sym (same_test s) ∙ e) k) (find dot_cmp d vs) None)
          ∙ (λ k. cond (sym (sym (same_test s) ∙ e) k) (Some v.1) None)
      step false e false s rest = rest

  -- the values of a field are those of the field, where each field is there once
  field_kept : (held : List ℕ → DotValue → Option (List ℕ)) (fs gs : FieldsValue) (f : List ℕ)
      → ((g : List ℕ) (vs : ValuesValue) → In gs (g, vs) → find bytes_cmp g fs ≡ Some vs)
      → values_of_field (open_fields seen held gs) f ≡ without_ended seen (held f) (values_of_field gs f)
  field_kept held fs [] f once = refl
  field_kept held fs ((g, vs) ∷ gs) f once =
      step (eq_by_cmp bytes_cmp f g) refl (without_ended seen (held g) vs) refl (field_kept held fs gs f (λ h ws i. once h ws (inr i)))
    where
      -- where the field is this one, what is further on at it is the same again
      again : f ≡ g → without_ended seen (held g) vs ≡ [] → (o : Option ValuesValue) → find bytes_cmp f gs ≡ o
          → without_ended seen (held f) (values_or_none o) ≡ []
      again e none None t = refl
      again e none (Some xs) t =
          let same = same_Some xs vs (sym (once f xs (inr (find_in f gs xs t))) ∙ ap (λ h. find bytes_cmp h fs) e ∙ once g vs (inl refl)) in
          (λ k. without_ended seen (held (e k)) (same k)) ∙ none

      step : (t : Bool) → eq_by_cmp bytes_cmp f g ≡ t → (ws : ValuesValue) → without_ended seen (held g) vs ≡ ws
          → values_of_field (open_fields seen held gs) f ≡ without_ended seen (held f) (values_of_field gs f)
          → values_of_field (with_values g ws (open_fields seen held gs)) f ≡ without_ended seen (held f)
          (values_or_none (cond t (Some vs) (find bytes_cmp f gs)))
      step true e [] s rest =
          let same = tied_same f g e in
          rest ∙ again same s (find bytes_cmp f gs) refl ∙ sym (ap (λ h. without_ended seen (held h) vs) same ∙ s)
      step true e (w ∷ ws) s rest =
          let same = tied_same f g e in
          ap (λ t. values_or_none (cond t (Some (w ∷ ws)) (find bytes_cmp f (open_fields seen held gs)))) e
          ∙ sym (ap (λ h. without_ended seen (held h) vs) same ∙ s)
      step false e [] s rest = rest
      step false e (w ∷ ws) s rest = ap (λ t. values_or_none (cond t (Some (w ∷ ws)) (find bytes_cmp f (open_fields seen held gs)))) e ∙ rest

  -- so what is opened at a key
  some_fields : (fs : FieldsValue) → fields_or_none (some_if_any fs) ≡ fs
  some_fields [] = refl
  some_fields (f ∷ fs) = refl

  opened_there : (own theirs : Option FieldsValue) → ((fs : FieldsValue) → theirs ≡ Some fs → IsLawful fs) → (f : List ℕ) (d : DotValue)
      → there (opened_at seen own theirs) f d ≡ cond (kept (held_in own f d) d) (there theirs f d) None
  opened_there own None lawful f d = none_either (kept (held_in own f d) d)
  opened_there own (Some fs) lawful f d =
      ap (λ gs. find dot_cmp d (values_of_field gs f)) (some_fields (open_fields seen (held_in own) fs))
      ∙ ap (find dot_cmp d) (field_kept (held_in own) fs fs f (λ g vs h. ((lawful fs refl).each g vs (Contains-In fs (g, vs) h)).1))
      ∙ find_kept (held_in own f) (values_of_field fs f) d

-- ---- a dot that was left out is known to the live pair, and does not stand there

or_known : (b : Bool) → b || true ≡ b → b ≡ true
or_known true e = refl
or_known false e = sym e

module _ (seen_dot opened_dot : Bool) (x t : Option (List ℕ)) (known : Bool) where
  left_out : joined greater x known None true ≡ x → known ≡ true → joined greater x known None opened_dot ≡ joined greater x known t opened_dot
  left_out gone is = step x t gone
    where
      step : (x t : Option (List ℕ)) → joined greater x known None true ≡ x → joined greater x known None opened_dot ≡ joined greater x known t opened_dot
      step (Some v) t e = absurd cc
      step None None e = refl
      step None (Some w) e = sym (ap (λ b. cond b None (Some w)) is)

pub closing : Closing
closing own theirs built seen opened live lawful is below = record {
  at = λ place d.
      let o = held_in (finite.get own place.key) place.field d in
      let t = there (finite.get theirs place.key) place.field d in
      ap (λ b. joined greater (live.at place d) (live.has d) b (opened d))
      (held_there (finite.get built place.key) place.field d ∙ ap (λ h. there h place.field d) (is place.key)
      ∙ opened_there seen (finite.get own place.key) (finite.get theirs place.key) (lawful place.key) place.field d)
      ∙ by_dot place d o refl t (seen d) refl
      ∙ ap (λ b. joined greater (live.at place d) (live.has d) b (opened d)) (sym (held_there (finite.get theirs place.key) place.field d));
  has = λ d. refl;
}
  where
    by_dot : (place : Place) (d : DotValue) (o : Option (List ℕ)) → held_in (finite.get own place.key) place.field d ≡ o → (t : Option (List ℕ)) (b : Bool)
        → seen d ≡ b
        → joined greater (live.at place d) (live.has d) (cond (not b || is_some o) t None) (opened d)
        ≡ joined greater (live.at place d) (live.has d) t (opened d)
    by_dot place d o e t false s = refl
    by_dot place d (Some v) e t true s = refl
    by_dot place d None e t true s =
        let known = or_known (live.has d) (ap (λ b. live.has d || b) (sym s) ∙ below.has d) in
        left_out true (opened d) (live.at place d) t (live.has d)
        ((λ k. joined greater (live.at place d) (live.has d) (sym e k) (sym s k)) ∙ below.at place d) known
