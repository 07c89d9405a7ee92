-- Where the names of two keys are the same, so is what stands there; and what is open of one's own is the whole of it.
use Rattle.std.proofs.Common.{◌≡◌, ◌≢◌, inl, inr, ℕ, List, [], ◌∷◌, Bool, true, false, cond, not, Some, refl, ◌∙◌, ap}
use Rattle.std.specs.Prelude.{Option, ◌||◌, is_some}
use Rattle.std.specs.Ordering.{eq_by_cmp}
use Rattle.std.specs.FinMap.Entries.{find}
use Rattle.dots.specs.Bytes.{bytes_cmp}
use Rattle.dots.specs.Dot.{DotValue}
use Rattle.causal_context.specs.Dots.{dot_cmp}
use Rattle.causal_context.proofs.Dots.{dot_cmp_total}
use Rattle.std.specs.Cmp.{eq_by_cmp_equiv}
use Rattle.sha2.specs.Sha256.{sha256}
use Rattle.causal_join.specs.OrMap.{ValuesValue, FieldsValue}
use Rattle.prefix_digest.specs.Page.{named_values, named_fields}
use Rattle.sync_model.specs.Opened.{held_in, with_values, some_if_any, without_ended, open_fields, opened_at}
use Rattle.sync_model.specs.Laws.{IsLawful}
use Rattle.sync_model.proofs.Held.{values_or_none, held_there}
use Rattle.sync_model.proofs.Members.{In, Contains-In}
use Rattle.sync_model.proofs.Filling.{EachValue, EachField}

-- ---- lists that are equal have equal heads and equal rests

module _ {X : Type 0} where
  abbrev first_or : X → List X → X
  first_or d [] = d
  first_or d (x ∷ xs) = x

  abbrev rest_of : List X → List X
  rest_of [] = []
  rest_of (x ∷ xs) = xs

  firsts : (x y : X) (xs ys : List X) → x ∷ xs ≡ y ∷ ys → x ≡ y
  firsts x y xs ys e = ap (first_or x) e

  rests : (x y : X) (xs ys : List X) → x ∷ xs ≡ y ∷ ys → xs ≡ ys
  rests x y xs ys e = ap rest_of e

module _ (MetHere MetThere : List ℕ → Type 0) (no_clash : (a b : List ℕ) → MetHere a → MetThere b → sha256 a ≡ sha256 b → a ≡ b) where
  values_same : (vs ws : ValuesValue) → EachValue MetHere vs → EachValue MetThere ws → named_values vs ≡ named_values ws → vs ≡ ws
  values_same [] [] here there e = refl
  values_same [] (w ∷ ws) here there e = absurd cc
  values_same (v ∷ vs) [] here there e = absurd cc
  values_same ((d, v) ∷ vs) ((c, w) ∷ ws) here there e =
      let one = firsts (d, sha256 v) (c, sha256 w) (named_values vs) (named_values ws) e in
      let dots : d ≡ c = ap (λ x. x.0) one in
      let values = no_clash v w here.0 there.0 (ap (λ x. x.1) one) in
      let more = values_same vs ws here.1 there.1 (rests (d, sha256 v) (c, sha256 w) (named_values vs) (named_values ws) e) in
      λ k. (dots k, values k) ∷ more k

  pub fields_same : (fs gs : FieldsValue) → EachField MetHere fs → EachField MetThere gs → named_fields fs ≡ named_fields gs → fs ≡ gs
  fields_same [] [] here there e = refl
  fields_same [] (g ∷ gs) here there e = absurd cc
  fields_same (f ∷ fs) [] here there e = absurd cc
  fields_same ((f, vs) ∷ fs) ((g, ws) ∷ gs) here there e =
      let one = firsts (f, named_values vs) (g, named_values ws) (named_fields fs) (named_fields gs) e in
      let names : f ≡ g = ap (λ x. x.0) one in
      let values = values_same vs ws here.0 there.0 (ap (λ x. x.1) one) in
      let more = fields_same fs gs here.1 there.1 (rests (f, named_values vs) (g, named_values ws) (named_fields fs) (named_fields gs) e) in
      λ k. (names k, values k) ∷ more k

-- ---- all of one's own is open

pub dot_tied : (d : DotValue) → eq_by_cmp dot_cmp d d ≡ true
dot_tied d = (eq_by_cmp_equiv dot_cmp_total).refl d

dot_there : (vs : ValuesValue) (d : DotValue) (v : List ℕ) → In vs (d, v) → is_some (find dot_cmp d vs) ≡ true
dot_there [] d v h = absurd h
dot_there (x ∷ vs) d v (inl e) = ap (λ c. is_some (cond (eq_by_cmp dot_cmp d (c.0)) (Some x.1) (find dot_cmp d vs))) e
    ∙ ap (λ b. is_some (cond b (Some x.1) (find dot_cmp d vs))) (dot_tied d)
dot_there (x ∷ vs) d v (inr h) = step (eq_by_cmp dot_cmp d x.0) (dot_there vs d v h)
  where
    step : (b : Bool) → is_some (find dot_cmp d vs) ≡ true → is_some (cond b (Some x.1) (find dot_cmp d vs)) ≡ true
    step true e = refl
    step false e = e

or_true : (b : Bool) → b || true ≡ true
or_true true = refl
or_true false = refl

module _ (seen : DotValue → Bool) where
  values_kept : (held : DotValue → Option (List ℕ)) (vs : ValuesValue) → ((d : DotValue) (v : List ℕ) → In vs (d, v) → is_some (held d) ≡ true)
      → without_ended seen held vs ≡ vs
  values_kept held [] among = refl
  values_kept held ((d, v) ∷ vs) among =
      ap (λ b. cond (not (seen d) || b) ((d, v) ∷ without_ended seen held vs) (without_ended seen held vs)) (among d v (inl refl))
      ∙ ap (λ b. cond b ((d, v) ∷ without_ended seen held vs) (without_ended seen held vs)) (or_true (not (seen d)))
      ∙ ap (λ l. (d, v) ∷ l) (values_kept held vs (λ c w h. among c w (inr h)))

  some_values : (field : List ℕ) (vs : ValuesValue) (rest : FieldsValue) → vs ≢ [] → with_values field vs rest ≡ (field, vs) ∷ rest
  some_values field [] rest some = absurd (some refl)
  some_values field (v ∷ vs) rest some = refl

  fields_kept : (own fs : FieldsValue) → ((f : List ℕ) (vs : ValuesValue) → In fs (f, vs) → (vs ≢ []) × (find bytes_cmp f own ≡ Some vs))
      → open_fields seen (held_in (Some own)) fs ≡ fs
  fields_kept own [] among = refl
  fields_kept own ((f, vs) ∷ fs) among =
      let here = among f vs (inl refl) in
      let kept = values_kept (held_in (Some own) f) vs (λ d v h. ap is_some (held_there (Some own) f d ∙ ap (λ o. find dot_cmp d (values_or_none o)) here.1)
      ∙ dot_there vs d v h) in
      ap (λ l. with_values f l (open_fields seen (held_in (Some own)) fs)) kept
      ∙ some_values f vs (open_fields seen (held_in (Some own)) fs) here.0
      ∙ ap (λ l. (f, vs) ∷ l) (fields_kept own fs (λ g ws h. among g ws (inr h)))

  any_fields : (fs : FieldsValue) → fs ≢ [] → some_if_any fs ≡ Some fs
  any_fields [] some = absurd (some refl)
  any_fields (f ∷ fs) some = refl

  pub own_open : (fs : FieldsValue) → IsLawful fs → opened_at seen (Some fs) (Some fs) ≡ Some fs
  own_open fs lawful = ap some_if_any (fields_kept fs fs (λ f vs h. lawful.each f vs (Contains-In fs (f, vs) h))) ∙ any_fields fs lawful.some
