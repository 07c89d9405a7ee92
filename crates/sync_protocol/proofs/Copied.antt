-- One snapshot more is copied: it is of a session that is not among those before, so it comes behind them.
use Rattle.std.proofs.Common.{◌≡◌, List, [], ◌∷◌, ◌++◌, Bool, true, false, cond, Some, None, refl, sym, ◌∙◌, ap, subst, append_assoc}
use Rattle.std.specs.Prelude.{◌&&◌}
use Rattle.std.specs.List.{AllByRecursion, IsDistinct}
use Rattle.std.specs.Map.{keys_of, lookup}
use Rattle.std.proofs.lemmas.Bool.{eqb-true}
use Rattle.indexmap.specs.IndexMap.{insert_entry}
use Rattle.indexmap.proofs.MapLemmas.{insert_entry-absent, absent_from_lookup}
use Rattle.wire_form.specs.Session.{SessionValue, same_session}
use Rattle.sync_protocol.proofs.Kept.{same_itself}

and_parts : (a b : Bool) → a && b ≡ true → (a ≡ true) × (b ≡ true)
and_parts true b h = (refl, h)
and_parts false b h = absurd cc

same_from : (s t : SessionValue) → same_session s t ≡ true → s ≡ t
same_from s t h =
    let first = and_parts _ _ h in
    let second = and_parts _ _ first.1 in
    let asker = eqb-true s.asker t.asker first.0 in
    let answerer = eqb-true s.answerer t.answerer second.0 in
    let number = eqb-true s.number t.number second.1 in
    λ i. record { asker = asker i; answerer = answerer i; number = number i }

apart_back : (s t : SessionValue) → same_session s t ≡ false → same_session t s ≡ false
apart_back s t off = step (same_session t s) refl
  where
    step : (b : Bool) → same_session t s ≡ b → b ≡ false
    step false e = refl
    step true e = absurd (let on : same_session s t ≡ true = subst (λ u. same_session u t ≡ true) (same_from t s e) (same_itself t) in cc)

module _ {X : Type 0} (k : SessionValue) (v : X) (rest : List (SessionValue × X)) where
  apart_from_later : (s : SessionValue) (es : List (SessionValue × X)) → AllByRecursion (λ y. same_session s y ≡ false) (keys_of (es ++ (k, v) ∷ rest))
      → same_session s k ≡ false
  apart_from_later s [] h = h.0
  apart_from_later s (e ∷ es) h = apart_from_later s es h.1

  none_before : (es : List (SessionValue × X)) → IsDistinct same_session (keys_of (es ++ (k, v) ∷ rest)) → lookup (same_session k) es ≡ None
  unfolding IsDistinct
  none_before [] d = refl
  none_before (e ∷ es) d =
      ap (λ b. cond b (Some e.1) (lookup (same_session k) es)) (apart_back e.0 k (apart_from_later e.0 es d.0)) ∙ none_before es d.1

  pub one_more : (all old new before : List (SessionValue × X)) (w : X) → IsDistinct same_session (keys_of all) → old ++ before ≡ all → before ≡ (k, v) ∷ rest
      → w ≡ v → new ≡ insert_entry same_session old k w
      → new ++ rest ≡ all
  one_more all old new before w distinct was is same put =
      let split : old ++ (k, v) ∷ rest ≡ all = ap (λ l. old ++ l) (sym is) ∙ was in
      let none = none_before old (subst (λ l. IsDistinct same_session (keys_of l)) (sym split) distinct) in
      let last : new ≡ old ++ (k, v) ∷ [] = put ∙ insert_entry-absent same_session k w old (absent_from_lookup (same_session k) old none)
      ∙ ap (λ x. old ++ (k, x) ∷ []) same in
      ap (λ l. l ++ rest) last ∙ append_assoc old ((k, v) ∷ []) rest ∙ split
